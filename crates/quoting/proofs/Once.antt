-- What is asked has one reply, and an input one answer.
use Rattle.std.proofs.Common.{◌≡◌, ℕ, zero, suc, ◌+◌, ◌*◌, ◌/◌, ◌%◌, ◌<◌, ◌≤◌, List, [], ◌∷◌, ◌++◌, length, get_or, take, ℤ, pos, Ok, Err, Result, sym, refl, ap, ◌∙◌, subst, inl, inr, ⊎_elim, arith}
use Rattle.std.proofs.lemmas.List.{get_or-take}
use Rattle.model.specs.Model.{Model, Lawful, offers}
use Rattle.books.specs.Lawfuls.{list_lawful}
use Rattle.criteria.specs.Criteria.{Ops}
use Rattle.checks.specs.Acceptance.{InOrder}
use Rattle.checks.specs.declared.refusal.PlanRefusal.{PlanRefusal}
use Rattle.planning.specs.Plans.{PlanAnswers}
use Rattle.planning.proofs.Agreeing.{plans_agree_lem}
use Rattle.planning.proofs.Determined.{plan_seen}
use Rattle.planning.proofs.Refused.{PlanView, one_plan}
use Rattle.planning.proofs.Refused.PlanView.{at_visits_plan, at_short_plan, at_stuck_plan, at_uneven_plan, at_fine_plan, at_accepted_plan}
use Rattle.fields.specs.Numerals.{Bytes, numeral}
use Rattle.fields.specs.Lines.{line}
use Rattle.fields.specs.Checking.{Checked}
use Rattle.fields.specs.Checking.Checked.{good, faulty}
use Rattle.bookfile.specs.File.{WrittenBook}
use Rattle.bookfile.specs.FileFaults.{LawfulBook}
use Rattle.quoting.specs.Asking.{criterion}
use Rattle.quoting.specs.Inputs.{Request, Asks}
use Rattle.quoting.specs.Printing.{plan_line, plan_lines}
use Rattle.quoting.specs.Quotes.{meaning_of, told, Tells, Replies, OneQuote}
use Rattle.quoting.proofs.Exactness.{asking_is_exact_lem}

-- a lawful book means a lawful model
pub lawful_meaning : (b : WrittenBook) → LawfulBook b → Lawful (meaning_of b)
lawful_meaning b (shaped, fits) =
    list_lawful b.conditions b.remedies b.parts b.records b.worths shaped.0 shaped.1
    (λ i l. let f = ((fits 1 i (inl (refl, l))).0 refl).0 in (f.some_share, f.few_share, f.small_amount))
    (λ i l. (fits 3 i (inr (inr (refl, l)))).1 refl)

module _ {V A : Type 0} (o : Ops V A) (m : Model) (H : ℕ) (lawful : Lawful m) where
  -- what a plan answers, seen for other tables that have room
  seen : (v w v' w' : ℕ) (a : Result ℕ PlanRefusal) → InOrder (offers m) H v w → InOrder (offers m) H v' w' → PlanView m H v w a → PlanView m H v' w' a
  seen v w v' w' _ here there (at_visits_plan bad) = absurd (⊎_elim (λ l. omega (arith, here.some)) (λ l. omega (arith, here.few)) bad)
  seen v w v' w' _ here there (at_short_plan bad) = absurd (⊎_elim (λ l. omega (arith, here.values_room)) (λ l. omega (arith, here.remedies_room)) bad.which)
  seen v w v' w' _ here there (at_stuck_plan n s order why) = at_stuck_plan n s there why
  seen v w v' w' _ here there (at_uneven_plan n s r order named odd) = at_uneven_plan n s r there named odd
  seen v w v' w' _ here there (at_fine_plan order named even large) = at_fine_plan there named even large
  seen v w v' w' _ here there (at_accepted_plan n count order named even fits) = at_accepted_plan n count there named even fits

  one_answer : (vs vs' ws ws' : List V) (rs rs' qs qs' : List ℕ) (a b : Result ℕ PlanRefusal) → InOrder (offers m) H (length vs) (length rs) → InOrder (offers m) H (length ws) (length qs) → PlanAnswers o m H a vs vs' rs rs' → PlanAnswers o m H b ws ws' qs qs' → a ≡ b
  one_answer vs vs' ws ws' rs rs' qs qs' a b here there x y = one_plan m H (length ws) (length qs) (seen (length vs) (length rs) (length ws) (length qs) a here there (plan_seen o m H lawful vs vs' rs rs' a x)) (plan_seen o m H lawful ws ws' qs qs' b y)

-- the first lines are printed alike of tables that agree on so many entries
same_entry : {V : Type 0} (d : V) (k i : ℕ) (xs ys : List V) → take k xs ≡ take k ys → i < k → get_or xs i d ≡ get_or ys i d
same_entry d k i xs ys e l = sym (get_or-take k xs i d l) ∙ ap (λ zs. get_or zs i d) e ∙ get_or-take k ys i d l

lines_same : (c k m : ℕ) (vs ws : List ℤ) (rs qs : List ℕ) → take k vs ≡ take k ws → take m rs ≡ take m qs → (n : ℕ) → n ≤ k → n ≤ m → plan_lines c vs rs n ≡ plan_lines c ws qs n
lines_same c k m vs ws rs qs e f zero a b = refl
lines_same c k m vs ws rs qs e f (suc i) a b =
    let rest = lines_same c k m vs ws rs qs e f i (omega arith) (omega arith) in
    let value = same_entry (pos 0) k i vs ws e (omega arith) in
    let remedy = same_entry 0 m i rs qs f (omega arith) in
    λ j. rest j ++ plan_line (i / c + 1) (i % c) (remedy j) (value j)

module _ (a : Request) (lawful : LawfulBook a.book) where
  abbrev m : Model
  m = meaning_of a.book

  told_same : (vs vs' ws ws' : List ℤ) (rs rs' qs qs' : List ℕ) (answer : Result ℕ PlanRefusal) → PlanAnswers (criterion a.by) m a.visits answer vs vs' rs rs' → PlanAnswers (criterion a.by) m a.visits answer ws ws' qs qs' → told a.book.conditions answer vs' rs' ≡ told a.book.conditions answer ws' qs'
  told_same vs vs' ws ws' rs rs' qs qs' (Ok n) x y =
      let same = plans_agree_lem (criterion a.by) m a.visits n n vs vs' ws ws' rs rs' qs qs' (lawful_meaning a.book lawful) x y in
      let count : n ≡ a.visits * a.book.conditions = x.0 in
      ap (λ ls. ls ++ line 84 (numeral n ∷ [])) (lines_same a.book.conditions ((a.visits + 1) * a.book.conditions) (a.visits * a.book.conditions) vs' ws' rs' qs' same.2 same.1 n (omega arith) (omega arith))
  told_same vs vs' ws ws' rs rs' qs qs' (Err f) x y = refl

  pub one_reply : (output other : Bytes) → Tells a output → Tells a other → other ≡ output
  one_reply output other x y =
      let e = one_answer (criterion a.by) m a.visits (lawful_meaning a.book lawful) y.values y.planned_values x.values x.planned_values y.remedies y.planned_remedies x.remedies x.planned_remedies y.answer x.answer y.in_order x.in_order y.plans x.plans in
      y.prints
      ∙ ap (λ (z : Result ℕ PlanRefusal). told a.book.conditions z y.planned_values y.planned_remedies) e
      ∙ told_same y.values y.planned_values x.values x.planned_values y.remedies y.planned_remedies x.remedies x.planned_remedies x.answer (subst (λ (z : Result ℕ PlanRefusal). PlanAnswers (criterion a.by) m a.visits z y.values y.planned_values y.remedies y.planned_remedies) e y.plans) x.plans
      ∙ sym x.prints

-- what the bytes ask, or their first fault, is one
pub asks_one : (bs : Bytes) (a b : Checked Request) → Asks bs a → Asks bs b → a ≡ b
asks_one bs a b x y = (asking_is_exact_lem bs a).0 x ∙ sym ((asking_is_exact_lem bs b).0 y)

replies_one : (bs : Bytes) (a : Checked Request) (output other : Bytes) → Asks bs a → Replies a output → Replies a other → other ≡ output
replies_one bs (good a) output other asks x y = one_reply a asks.2.lawful output other x y
replies_one bs (faulty f) output other asks x y = y ∙ sym x

pub one_quote : OneQuote
one_quote input output other (a, asks, x) (b, asks', y) = replies_one input a output other asks x (subst (λ (z : Checked Request). Replies z other) (asks_one input b a asks' asks) y)
