-- Commands of the code as contracts see them.
use Rattle.std.specs.Prelude.{◌≤◌, ⊤}
use Rattle.command_words.specs.declared.command.Command.{Command as Borrowed}
use Rattle.command_words.specs.declared.command.Command.TheVariants as borrowed
use Rattle.command_words.specs.Commands.{Command, OnFile, Make, most_functions}

abbrev pub command_view : Borrowed → Command
command_view (borrowed.OnFile action name) = OnFile action name.now
command_view (borrowed.Make n) = Make n

-- so many functions may be generated
abbrev pub HasFewFunctions : Borrowed → Type 0
HasFewFunctions (borrowed.OnFile action name) = ⊤
HasFewFunctions (borrowed.Make n) = n ≤ most_functions
