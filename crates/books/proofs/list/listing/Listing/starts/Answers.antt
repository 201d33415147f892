use Rattle.std.proofs.Common.{◌≡◌, ℕ, zero, suc, ◌+◌, ◌*◌, ◌<◌, ◌≤◌, List, get_or, sym, subst, ⊎_elim, arith, rules}
use Rattle.std.proofs.lemmas.Bool.{cases_lt}
use Rattle.std.specs.Array.{IsFromFnResultFrom}
use Rattle.std.specs.Fn.{Called}
use denote.Param.Members.{Mut}
use Rattle.books.specs.Entries.{StandBefore}
use Rattle.books.proofs.list.listing.Listing.starts.Goals as goal

-- what each call of a closure gives, if it leaves the closure as it was
each_given : {F : Type 0} (g : Mut F (ℕ × Unit {0}) ℕ) (f : F) (P : (k m : ℕ) → Type 0) → ((k m : ℕ) (q : F) → Called g f (k, tt) m q → (q ≡ f) × P k m) → (ys : List ℕ) (i n : ℕ) → IsFromFnResultFrom g f ys i n → (k : ℕ) → i ≤ k → k < i + n → P k (get_or ys k 0)
each_given g f P h ys i zero all k a b = absurd (omega arith)
each_given {F} g f P h ys i (suc n) (q, y, at, called, rest) k a b =
    let told = h i y q called in
    ⊎_elim
    (λ (c : i < k). let Rest : F → Type 0 = λ p. IsFromFnResultFrom g p ys (i + 1) n in each_given g f P h ys (i + 1) n (subst Rest told.0 rest) k (omega arith) (omega arith))
    (λ (c : k ≤ i). let same : i ≡ k = omega arith in subst (λ (j : ℕ). P j (get_or ys j 0)) same (subst (P i) (sym (at.1 0)) told.1))
    (cases_lt i k)

pub returns : goal.returns
returns c = λ k l. each_given _ _ (λ k m. StandBefore c.args.self.now.records.now (k * 32) m) (λ k m q called. search rules) c.from_fn.result 0 257 c.from_fn.ensures.items.each k (omega arith) l
