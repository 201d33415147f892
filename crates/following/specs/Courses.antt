-- What a run of a round comes to: the course that was reported, and the totals at which it was settled.
use Rattle.std.specs.Prelude.{◌≡◌, ◌≢◌, ℕ, List, [], ◌∷◌, ℤ, ◌≤ℤ◌, All}
use Rattle.following.specs.declared.call.RoundCall.{RoundCall}
use Rattle.following.specs.declared.call.RoundCall.TheVariants.{Treat, Report, Settle}
use Rattle.following.specs.declared.call.Reply.{Reply}
use Rattle.following.specs.declared.call.Reply.TheVariants.{Treated, Reported, Settled, Declined}

-- the next conditions of the accepted reports, in order
abbrev pub reported : List RoundCall → List Reply → List ℕ
reported [] zs = []
reported (d ∷ ds) [] = []
reported (Treat ∷ ds) (z ∷ zs) = reported ds zs
reported (Settle ∷ ds) (z ∷ zs) = reported ds zs
reported (Report j ∷ ds) (Treated r ∷ zs) = reported ds zs
reported (Report j ∷ ds) (Reported ∷ zs) = j ∷ reported ds zs
reported (Report j ∷ ds) (Settled v ∷ zs) = reported ds zs
reported (Report j ∷ ds) (Declined f ∷ zs) = reported ds zs

-- the totals of the accepted settlings, in order
abbrev pub settled_at : List Reply → List ℤ
settled_at [] = []
settled_at (Treated r ∷ zs) = settled_at zs
settled_at (Reported ∷ zs) = settled_at zs
settled_at (Settled v ∷ zs) = v ∷ settled_at zs
settled_at (Declined f ∷ zs) = settled_at zs

-- a settling was accepted
abbrev pub IsSettled : List Reply → Type 0
IsSettled zs = settled_at zs ≢ []

-- no accepted settling answers less
abbrev pub AtLeast : ℤ → List Reply → Type 0
AtLeast v zs = All (λ z. v ≤ℤ z) (settled_at zs)

-- every accepted settling answers this very total
abbrev pub Totals : ℤ → List Reply → Type 0
Totals v zs = All (λ z. z ≡ v) (settled_at zs)

-- the calls that lead a lock along a course, and settle it
abbrev pub calls_along : List ℕ → List RoundCall
calls_along [] = Settle ∷ []
calls_along (j ∷ c) = Treat ∷ (Report j ∷ calls_along c)
