use Rattle.std.proofs.Common.{◌≡◌, ℕ, zero, suc, ◌+◌, ◌^◌, ◌<◌, ◌≤◌, List, slice_index_or, pos, sym, subst, ⊎_elim, refl, arith, rules}
use Rattle.std.proofs.lemmas.Bool.{cases_lt}
use Rattle.std.specs.Array.{IsFromFnResultFrom}
use Rattle.std.specs.Fn.{Called}
use denote.Param.Members.{Mut}
use Rattle.criteria.specs.Mean.{hold}
use Rattle.criteria.proofs.mean.Mean.of.Goals as goal

-- what a call at each number gives, where calls keep I
from_each : {F B : Type 0} (g : Mut F (ℕ × Unit {0}) B) (I : F → Type 0) (P : ℕ → B → Type 0) → ((f : F) (i : ℕ) (y : B) (f' : F) → Called g f (i, tt) y f' → I f → P i y × I f') → (ys : List B) (d : B) (n : ℕ) (f : F) (i k : ℕ) → I f → IsFromFnResultFrom g f ys i n → i ≤ k → k < i + n → P k (slice_index_or ys k d)
from_each g I P step ys d zero f i k kept each low high = absurd (omega arith)
from_each g I P step ys d (suc n) f i k kept each low high =
    let next = step f i each.1 each.0 each.3 kept in
    ⊎_elim
    (λ (later : i < k). from_each g I P step ys d n each.0 (i + 1) k next.1 each.4 (omega arith) (omega arith))
    (λ (here : k ≤ i).
    let same : i ≡ k = omega arith in
    subst (λ (m : ℕ). P m (slice_index_or ys m d)) same (subst (P i) (sym (each.2.1 d)) next.0))
    (cases_lt i k)

pub invariant_of-result : goal.invariant_of-result
invariant_of-result c =
    record { kept = λ k h. from_each _ (λ f. f.0.now ≡ c.args.parts) (λ i y. y ≡ hold (pos (c.args.parts ^ i))) (λ f i y f' e same. search rules) c.from_fn.result (pos 0) 48 _ 0 k refl c.from_fn.ensures.items.each (omega arith) (omega arith) }
