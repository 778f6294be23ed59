-- The header is read from what follows the mark and the version, so its numbers stand five bytes further on in the file.
use Rattle.std.proofs.Common.{◌≡◌, ℕ, ◌+◌, ◌-◌, List, length, take, drop, ap, ◌∙◌, arith, length-drop, take_all, rules}
use Rattle.rcm.specs.Format.{u16_at, u32_at}
use Rattle.rcm.specs.Layout.{head_of}
use Rattle.rcm.specs.Checks.{Mark, Version}
use Rattle.rcm.proofs.Numbers.{u16_drop, u32_drop}
use Rattle.rcm.proofs.frame.open.check_opening.Goals as goal

pub returns-then-from_be_bytes-ne-VERSION : goal.returns-then-from_be_bytes-ne-VERSION
unfolding u16_at
returns-then-from_be_bytes-ne-VERSION c = search rules

pub returns : goal.returns
unfolding u16_at
returns c =
    let b = c.args.bytes.now in
    let read = c.read_head.ensures in
    let rest : take (length b - 5) (drop 5 b) ≡ drop 5 b = take_all (length b - 5) (drop 5 b) (simp length-drop (omega arith)) in
    let number : (i : ℕ) → u16_at (take (length b - 5) (drop 5 b)) i ≡ u16_at b (5 + i) = λ i. ap (λ (l : List ℕ). u16_at l i) rest ∙ u16_drop b 5 i in
    let head : c.read_head.result ≡ head_of b = λ i. record {
      states = (read.states ∙ number 0) i;
      start = (read.start ∙ number 2) i;
      actions = (read.actions ∙ number 4) i;
      outcomes = (read.outcomes ∙ number 6) i;
      price = (read.price ∙ ap (λ (l : List ℕ). u32_at l 8) rest ∙ u32_drop b 5 8) i;
    } in
    (head, elim [ Mark ↦ search rules | Version ↦ search rules ])
