-- The lines of a script, as the code holds them.
use Rattle.std.specs.Prelude.{Ok, Err, Result}
use Rattle.fields.specs.Checking.{Checked}
use Rattle.fields.specs.Checking.Checked.{good, faulty}
use Rattle.fields.specs.Views.{reported_line}
use Rattle.fields.specs.declared.faults.LineFault.{LineFault}
use Rattle.script.specs.declared.command.Command.{Command}
use Rattle.script.specs.declared.script.ScriptLine.{ScriptLine}
use Rattle.script.specs.Orders.{Order}
use Rattle.script.specs.Commands.{order_of}
use Rattle.script.specs.Parts.{Said, said}

abbrev pub checked_of : Result Command LineFault → Checked Order
checked_of (Ok c) = good (order_of c)
checked_of (Err e) = faulty (reported_line e)

abbrev pub said_of : ScriptLine → Said
said_of l = said l.number (checked_of l.command)
