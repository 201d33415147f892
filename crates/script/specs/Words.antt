-- The words that lines of a script begin with.
use Rattle.std.specs.Prelude.{Option, codes}
use Rattle.std.specs.List.{find}
use Rattle.std.specs.Str.{bytes_eq}
use Rattle.fields.specs.Numerals.{Bytes}
use Rattle.script.specs.declared.word.Word.{Word}
use Rattle.script.specs.declared.word.Word.TheVariants.{Bar, Surcharge, Prolong, Lift, Plan, Judge, Begin, Treat, Report, Settle}
use Rattle.script.specs.declared.word.TheConstants.{WORDS}

abbrev pub text_of : Word → Bytes
text_of Bar = codes "bar"
text_of Surcharge = codes "surcharge"
text_of Prolong = codes "prolong"
text_of Lift = codes "lift"
text_of Plan = codes "plan"
text_of Judge = codes "judge"
text_of Begin = codes "begin"
text_of Treat = codes "treat"
text_of Report = codes "report"
text_of Settle = codes "settle"

-- the word that some bytes are
unfoldable pub word_in : Bytes → Option Word
word_in bs = find (λ w. bytes_eq (text_of w) bs) WORDS
