-- A walk that visits each state it has found finds the plan's states, and no others. Assumes nothing.
use Rattle.std.proofs.Common.{◌≡◌, ℕ, ◌+◌, ◌<◌, ◌≤◌, ◌⊎◌, List, [], ◌++◌, length, get_or, slice_index, sym, refl, ap, ◌∙◌, subst, inl, inr, ⊎_elim, arith, append-nil, append_assoc}
use Rattle.std.proofs.Math.ListN.{get_or-append}
use Rattle.std.proofs.lemmas.List.{get_or_default}
use native.Mathlib.Decide.{dec_lt}
use Rattle.std.specs.List.{Contains}
use Rattle.std.proofs.lemmas.List.Elements.{Contains-append_left, Contains-get_or}
use Rattle.process.specs.Process.{Process, action_at, outcome_at}
use Rattle.process.specs.Valuation.{Valuation}
use Rattle.planning.specs.Plan.{at_start, onward, best}
use Rattle.planning.specs.Steps.{Bounds, Planned}
use Rattle.search.specs.Walking.{Walk, Grown, Same, Visited, Among, AmongFirst, Leads, Surveyed}

pub grown_none : (new : ℕ → Type 0) (w : Walk) → ((s : ℕ) → new s → ⊥) → Grown new w w
grown_none new w none = record {
  more = [];
  after = sym (append-nil w.states);
  same_visited = refl;
  only = λ s h. inl h;
  all = λ s n. absurd (none s n);
}

-- the new states, described in another way
pub grown_same : (P Q : ℕ → Type 0) (w v : Walk) → Grown P w v → ((s : ℕ) → P s → Q s) → ((s : ℕ) → Q s → P s) → Grown Q w v
grown_same P Q w v grown to from = record {
  more = grown.more;
  after = grown.after;
  same_visited = grown.same_visited;
  only = λ s h. ⊎_elim inl (λ n. inr (to s n)) (grown.only s h);
  all = λ s q. grown.all s (from s q);
}

-- what was found stays found
kept : (P : ℕ → Type 0) (w v : Walk) → Grown P w v → (s : ℕ) → Contains w.states s → Contains v.states s
kept P w v grown s h = rw grown.after (Contains-append_left w.states grown.more s h)

-- one growth after another
pub grown_then : (P Q R : ℕ → Type 0) (w v u : Walk) → Grown P w v → Grown Q v u → ((s : ℕ) → P s → R s) → ((s : ℕ) → Q s → R s) → ((s : ℕ) → R s → P s ⊎ Q s) → Grown R w u
grown_then P Q R w v u one two first second either = record {
  more = one.more ++ two.more;
  after = rw (two.after, one.after) (append_assoc w.states one.more two.more);
  same_visited = two.same_visited ∙ one.same_visited;
  only = λ s h. ⊎_elim (λ old. ⊎_elim inl (λ n. inr (first s n)) (one.only s old)) (λ n. inr (second s n)) (two.only s h);
  all = λ s r. ⊎_elim (λ p. kept Q v u two s (one.all s p)) (two.all s) (either s r);
}

module _ (os : List (ℕ × ℕ)) where
  pub outcomes_more : (k : ℕ) (w v u : Walk) (o : ℕ × ℕ) → o ≡ get_or os k (0, 0) → Grown (AmongFirst os k) w v → Grown (Same o.0) v u → Grown (AmongFirst os (k + 1)) w u
  outcomes_more k w v u o told before step = grown_then _ _ _ w v u before step
      (λ s among. record { place = among.place; within = omega (arith, among.within); there = among.there })
      (λ s same. record { place = k; within = omega arith; there = same ∙ ap (λ (x : ℕ × ℕ). x.0) told })
      (λ s among. elim (dec_lt among.place k) [
        | yes below ↦ inl (record { place = among.place; within = below; there = among.there })
        | no above ↦
            let last : among.place ≡ k = omega (arith, among.within) in
            inr (among.there ∙ ap (λ i. (get_or os i (0, 0)).0) last ∙ sym (ap (λ (x : ℕ × ℕ). x.0) told))
      ])

  pub outcomes_all : (k : ℕ) (w v : Walk) → k ≡ length os → Grown (AmongFirst os k) w v → Grown (Among os) w v
  outcomes_all k w v e grown = subst (λ n. Grown (AmongFirst os n) w v) e grown

module _ (V : Valuation) (p : Process) (x : Bounds) where
  -- the visited states have led to no others
  pub record Walked (w : Walk) : Type 0 where
    pub from_start : Contains w.states p.start
    pub sound : (s : ℕ) → Contains w.states s → Planned V p x s
    pub followed : (i : ℕ) → i < w.visited → (s : ℕ) → Leads V p x (slice_index w.states i) s → Contains w.states s

  leads_planned : (t s : ℕ) → Planned V p x t → Leads V p x t s → Planned V p x s
  leads_planned t s planned leads =
      let P : ℕ → Type 0 = λ r. Planned V p x r in
      subst P (sym leads.outcome.there) (onward t leads.outcome.place planned leads.nonterminal leads.is_expanded leads.worth leads.outcome.within)

  planned_at : (s : ℕ) → s ≡ p.start → Planned V p x s
  planned_at s e = subst (λ r. Planned V p x r) (sym e) at_start

  pub walked_start : (w : Walk) (start : ℕ) → start ≡ p.start → Grown (Same start) (record { states = []; visited = 0 }) w → Walked w
  walked_start w start told grown = record {
    from_start = grown.all p.start (sym told);
    sound = λ s h. ⊎_elim (λ old. absurd (omega (arith, old.1))) (λ same. planned_at s (same ∙ told)) (grown.only s h);
    followed = λ i h. absurd (omega (arith, grown.same_visited));
  }

  module _ (w v u : Walk) (t : ℕ) (visit : Visited w v t) (grown : Grown (Leads V p x t) v u) (walked : Walked w) where
    still : (s : ℕ) → Contains w.states s → Contains u.states s
    still s h = kept _ v u grown s (rw visit.same_states h)

    same_place : (i : ℕ) → i < length w.states → slice_index u.states i ≡ slice_index w.states i
    same_place i h = rw (grown.after, visit.same_states) (get_or-append w.states grown.more 0 i h)

    was_found : Contains w.states t
    was_found = rw (← visit.here) (Contains-get_or w.states w.visited 0 visit.within)

    pub walked_more : Walked u
    walked_more = record {
      from_start = still _ walked.from_start;
      sound = λ s h. ⊎_elim (λ old. walked.sound s (rw visit.same_states at old)) (leads_planned t s (walked.sound t was_found)) (grown.only s h);
      followed = λ i below s leads.
          let L : ℕ → Type 0 = λ t. Leads V p x t s in
          let leads' = subst L (same_place i (omega (arith, visit.within, visit.one_more, grown.same_visited))) leads in
          elim (dec_lt i w.visited) [
            | yes before ↦ still s (walked.followed i before s leads')
            | no after ↦
                let last : i ≡ w.visited = omega (arith, visit.one_more, grown.same_visited) in
                grown.all s (subst L (ap (slice_index w.states) last ∙ visit.here) leads')
          ];
    }

  pub walked_all : (w v : Walk) → (v ≡ w) × (length w.states ≤ w.visited) → Walked w → Surveyed V p x v.states
  walked_all w v all walked = rw all.0 (λ s. (walked.sound s, complete))
    where
      complete : {s : ℕ} → Planned V p x s → Contains w.states s
      complete at_start = walked.from_start
      complete (onward t k planned live is_expanded worth within) =
          let (i, below, there) = complete planned in
          let to = (outcome_at (action_at p t (best V p x.lower t)) k).0 in
          let leads : Leads V p x t to = record { nonterminal = live; is_expanded = is_expanded; worth = worth; outcome = record { place = k; within = within; there = refl } } in
          walked.followed i (omega (arith, all.1)) to (rw (get_or_default w.states i 0 t below, there) leads)
