-- The first action with too high an estimate, after states without one, is the first of the section.
use Rattle.std.proofs.Common.{◌≡◌, ℕ, ◌<◌, ◌≤◌, List, subst, mul-le-mul_left, arith}
use native.Mathlib.Decide.{dec_lt}
use Rattle.faults.specs.declared.Cause.TheVariants.{Consistency}
use Rattle.rcm.specs.Format.{Format}
use Rattle.rcm.specs.Layout.{states, action_byte, state_record, action_count}
use Rattle.rcm.specs.Checks.{whole, Has, Consistent, FirstAction}
use Rattle.rcm.specs.Checking.{First}
use Rattle.checks.specs.Filling.{Filled, FirstInconsistent}
use Rattle.checks.specs.Laws.Inside.{actions_inside}
use Rattle.rcm.specs.Laws.Sums.{sum_within}

module _ (F : Format) (b : List ℕ) (filled : Filled F b) where
  -- of two states the later has the later actions
  pub later : (s s' a a' : ℕ) → s < s' → s' < states b → Has (state_record F b s) a → Has (state_record F b s') a' → a < a'
  later s s' a a' lt known has has' =
      let first = filled.states_hold s (omega arith) FirstAction in
      let first' = filled.states_hold s' known FirstAction in
      omega (arith, first, first', has, has', sum_within (action_count F b) s s' lt)

  pub first_consistency : (s a k : ℕ) → s < states b →
      ((s' : ℕ) → s' < s → (a' : ℕ) → Has (state_record F b s') a' → Consistent F b s' a') →
      FirstInconsistent F b s a k → First F b Consistency a k
  first_consistency s a k known before first = record {
    fails = (omega (arith, first.has, actions_inside F b filled s known), (whole, omega (arith, first.here), λ rule. first.broken (rule s known first.has)));
    none_before = λ r' k' lt f. f.1.2 (keeps r' (earlier r' (omega (arith, f.1.1, first.here))));
  }
    where
      -- what stands before the action's record belongs to an earlier action
      earlier : (a' : ℕ) → action_byte F b a' < action_byte F b a → a' < a
      earlier a' h = elim (dec_lt a' a) [ yes lt ↦ lt | no ge ↦ let le : a ≤ a' = omega arith in absurd (omega (arith, mul-le-mul_left F.action_width le)) ]

      same : (a' s' : ℕ) → s ≡ s' → a' < a → Has (state_record F b s') a' → Consistent F b s' a'
      same a' s' e = subst (λ (x : ℕ). a' < a → Has (state_record F b x) a' → Consistent F b x a') e (λ lt has. first.before a' has lt)

      keeps : (a' : ℕ) → a' < a → (s' : ℕ) → s' < states b → Has (state_record F b s') a' → Consistent F b s' a'
      keeps a' lt s' known' has' =
          elim (dec_lt s' s) [
            | yes h ↦ before s' h a' has'
            | no h ↦ elim (dec_lt s s') [
              | yes h' ↦ absurd (omega (arith, later s s' a a' h' known' first.has has'))
              | no h' ↦ same a' s' (omega arith) lt has'
            ]
          ]
