-- The least tables exist: raised figures stay below every table, and are a table once none can be raised further. Assumes nothing.
use Rattle.std.proofs.Common.{◌≡◌, ℕ, ◌<◌, ◌≤◌, Bool, false, refl, ◌∙◌, le_trans, arith}
use Rattle.process.specs.Process.{Process, InOrder}
use Rattle.process.specs.Valuation.{Valuation, Monotone}
use Rattle.planning.specs.Plan.{backup, upper_backup, InPlan}
use Rattle.planning.specs.Answer.{LowerTable, LeastLowerTable, LeastUpperTable}
use Rattle.planning.proofs.Basics.{backup_le_price, backup_mono, upper_backup_le_price, planned_known}
use Rattle.planning.proofs.Raising.{RaisedLower, RaisedUpper, raised_above, raised_below, raised_terminal, lower_capped, raised_closed}
use Rattle.planning.proofs.WithinPlan.{AllExpanded, upper_backup_mono}

module _ (V : Valuation) (mono : Monotone V) (p : Process) (ok : InOrder p) where
  pub lower_below_table : {t : ℕ → ℕ} → RaisedLower V p t → (u : ℕ → ℕ) → LowerTable V p u → (s : ℕ) → s < p.states → t s ≤ u s
  lower_below_table made u table =
      raised_below (λ s. s < p.states) u table.estimate (λ g below s h live. le_trans (backup_mono V mono p ok g u below s h live) (table.backed_up s h live)) made

  pub least_lower_table : (t : ℕ → ℕ) × RaisedLower V p t × LeastLowerTable V p t
  least_lower_table =
      let top = raised_closed p (backup V p) p.estimate ok.estimate_capped (backup_le_price V p) in (
        top.0,
        top.1,
        record {
          table = record {
            capped = lower_capped V p ok top.1;
            terminal = λ s h end. raised_terminal top.1 s end ∙ (ok.terminals s h end).estimate_zero;
            estimate = λ s _. raised_above top.1 s;
            backed_up = top.2;
          };
          smallest = lower_below_table top.1;
        },
      )

-- over a plan in which every open state is expanded
pub upper_below_table : (V W : Valuation) → Monotone W → (p : Process) (e : ℕ → Bool) (f : ℕ → ℕ) → AllExpanded V p e f → {u : ℕ → ℕ} → RaisedUpper V W p f u → (v : ℕ → ℕ) → ((s : ℕ) → InPlan V p e f s → p.terminal s ≡ false → upper_backup V W p f v s ≤ v s) → (s : ℕ) → InPlan V p e f s → u s ≤ v s
upper_below_table V W mono p e f expanded made v closed =
    raised_below (InPlan V p e f) v (λ _ _. omega arith) (λ g below s planned live. le_trans (upper_backup_mono V p e f expanded g v below s planned live W mono) (closed s planned live)) made

pub upper_table_exists : (V W : Valuation) → Monotone W → (p : Process) → InOrder p → (t : ℕ → ℕ) → (u : ℕ → ℕ) × LeastUpperTable V W p t u
upper_table_exists V W mono p ok t =
    let top = raised_closed p (upper_backup V W p t) (λ _. 0) (λ _ _. omega arith) (upper_backup_le_price V W p t) in (
      top.0,
      record {
        table = record { terminal = λ s _. raised_terminal top.1 s; backed_up = λ s planned. top.2 s (planned_known V p ok _ t s planned) };
        smallest = λ v table. upper_below_table V W mono p _ t (λ _ _ _. refl) top.1 v table.backed_up;
      },
    )
