-- What a refusal to write a book file is told as.
use Rattle.std.specs.Prelude.{ℕ}
use Rattle.bookfile.specs.declared.refusal.WriteRefusal.{WriteRefusal}
use Rattle.bookfile.specs.declared.refusal.WriteRefusal.TheVariants.{Short}

abbrev pub write_number : WriteRefusal → ℕ
write_number Short = 2

-- three places, 0 where there is none
abbrev pub write_places : WriteRefusal → ℕ × ℕ × ℕ
write_places Short = (0, 0, 0)
