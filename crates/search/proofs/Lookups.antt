-- Lists by their places: one element written, and one element over and over. Assumes nothing.
use Rattle.std.proofs.Common.{◌≡◌, ℕ, zero, suc, ◌<◌, ◌≢◌, List, length, get_or, set, replicate, refl, get_or-set_other, get_or-set_same}
use native.Mathlib.Decide.{ℕ_discrete}

pub get_or_replicated : {A : Type 0} (n k : ℕ) (a : A) → get_or (replicate n a) k a ≡ a
get_or_replicated zero k a = refl
get_or_replicated (suc n) zero a = refl
get_or_replicated (suc n) (suc k) a = get_or_replicated n k a

-- what is to hold at a place after a write holds of what was written, or held before
pub at_set : {A : Type 0} (P : A → Type 0) (l : List A) (i k : ℕ) (a d : A) → i < length l → (k ≡ i → P a) → (k ≢ i → P (get_or l k d)) → P (get_or (set l i a) k d)
at_set P l i k a d h here there = elim (ℕ_discrete k i) [
  | yes e ↦ rw (e, get_or-set_same l i a d) (here e)
  | no e ↦ rw (get_or-set_other l i k a d) (there e)
]
