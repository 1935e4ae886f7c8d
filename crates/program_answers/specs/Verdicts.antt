-- How a run of the program is reported: the report's one line, or none, and the status.
use Rattle.std.specs.Prelude.{ℕ, List, [], ◌++◌, codes}
use Rattle.std.specs.Fmt.{decimal}
use Rattle.cc_base.specs.Names.{check_name, rule_name, limit_name}
use Rattle.cc_base.specs.Places.{place_text}
use Rattle.cc_base.specs.declared.fault.Limit.{Limit}
use Rattle.cc_base.specs.declared.fault.Limit.TheVariants as limit
use Rattle.cc_base.specs.declared.fault.Fault.{Fault}
use Rattle.cc_base.specs.declared.fault.Fault.TheVariants as fault
use Rattle.cured_reading.specs.declared.wrong.Form.{Form}
use Rattle.cured_reading.specs.declared.wrong.Form.TheVariants as form
use Rattle.cured_reading.specs.declared.wrong.CuredLimit.{CuredLimit}
use Rattle.cured_reading.specs.declared.wrong.CuredLimit.TheVariants as cured
use Rattle.cured_reading.specs.declared.wrong.CuredFault.{CuredFault}
use Rattle.cured_reading.specs.declared.wrong.CuredFault.TheVariants as uncured
use Rattle.cured_machine.specs.declared.ending.Ending.{Ending}
use Rattle.cured_machine.specs.declared.ending.Ending.TheVariants as ending
use Rattle.program_answers.specs.declared.verdict.Verdict.{Verdict}
use Rattle.program_answers.specs.declared.verdict.Verdict.TheVariants.{Done, Exited, Stopped, Usage, FileFault, Refused, InputFault, OutputFault, OutOfTurns, TextTooLong, LimitPassed, CuredLimitPassed, NoMemory, NotCured, Trapped}

-- the greatest number that each limit of a C program allows
abbrev pub limit_number : Limit → ℕ
limit_number limit.Depth = 256
limit_number limit.Held = 256
limit_number limit.Types = 16384
limit_number limit.Object = 1048576
limit_number limit.Params = 127
limit_number limit.Functions = 65535
limit_number limit.Globals = 4194304
limit_number limit.Cells = 65536

-- the names of the limits of a cured program, and the greatest numbers that they allow
abbrev pub cured_limit_name : CuredLimit → List ℕ
cured_limit_name cured.Sigs = codes "sigs"
cured_limit_name cured.Nodes = codes "nodes"
cured_limit_name cured.Globals = codes "globals"
cured_limit_name cured.Bytes = codes "bytes"
cured_limit_name cured.Functions = codes "functions"
cured_limit_name cured.Slots = codes "slots"
cured_limit_name cured.Locals = codes "locals"
cured_limit_name cured.LocalBytes = codes "locals"
cured_limit_name cured.Nest = codes "nest"

abbrev pub cured_limit_number : CuredLimit → ℕ
cured_limit_number cured.Sigs = 65536
cured_limit_number cured.Nodes = 65536
cured_limit_number cured.Globals = 1048576
cured_limit_number cured.Bytes = 12582912
cured_limit_number cured.Functions = 65536
cured_limit_number cured.Slots = 2048
cured_limit_number cured.Locals = 1048576
cured_limit_number cured.LocalBytes = 3145728
cured_limit_number cured.Nest = 1024

abbrev pub form_name : Form → List ℕ
form_name form.Syntax = codes "Syntax"
form_name form.Version = codes "Version"
form_name form.Range = codes "Range"

-- a limit that is passed: its name and its number
abbrev pub limit_text : Limit → List ℕ
limit_text l = limit_name l ++ codes " " ++ decimal (limit_number l)

abbrev pub cured_limit_text : CuredLimit → List ℕ
cured_limit_text l = cured_limit_name l ++ codes " " ++ decimal (cured_limit_number l)

-- the line of the report; there is none where all that was asked for is written
abbrev pub line_of : Verdict → List ℕ
line_of Done = []
line_of (Exited n) = codes "exited " ++ decimal n ++ codes "\n"
line_of (Stopped check place) = codes "stopped " ++ check_name check ++ codes " " ++ place_text place ++ codes "\n"
line_of Usage = codes "usage\n"
line_of FileFault = codes "file fault\n"
line_of (Refused place rule) = codes "refused " ++ place_text place ++ codes " " ++ rule_name rule ++ codes "\n"
line_of InputFault = codes "input fault\n"
line_of OutputFault = codes "output fault\n"
line_of OutOfTurns = codes "out of turns\n"
line_of (TextTooLong most) = codes "limit text " ++ decimal most ++ codes "\n"
line_of (LimitPassed place l) = codes "limit " ++ place_text place ++ codes " " ++ limit_text l ++ codes "\n"
line_of (CuredLimitPassed line l) = codes "limit " ++ decimal line ++ codes ":1 " ++ cured_limit_text l ++ codes "\n"
line_of NoMemory = codes "no memory\n"
line_of (NotCured line f) = codes "not cured " ++ decimal line ++ codes " " ++ form_name f ++ codes "\n"
line_of (Trapped f) = codes "trapped " ++ decimal f.0 ++ codes "\n"

abbrev pub status_of : Verdict → ℕ
status_of Done = 0
status_of (Exited n) = 0
status_of (Stopped check place) = 1
status_of Usage = 2
status_of FileFault = 3
status_of (Refused place rule) = 4
status_of InputFault = 5
status_of OutputFault = 6
status_of OutOfTurns = 7
status_of (TextTooLong most) = 8
status_of (LimitPassed place l) = 8
status_of (CuredLimitPassed line l) = 8
status_of NoMemory = 9
status_of (NotCured line f) = 10
status_of (Trapped f) = 11

-- how a fault of a C text is reported
abbrev pub verdict_of_fault : Fault → Verdict
verdict_of_fault (fault.Refused place rule) = Refused place rule
verdict_of_fault (fault.TooLarge place l) = LimitPassed place l
verdict_of_fault fault.NoMemory = NoMemory

-- how a fault of a cured text is reported
abbrev pub verdict_of_cured_fault : CuredFault → Verdict
verdict_of_cured_fault (uncured.Form line f) = NotCured line f
verdict_of_cured_fault (uncured.TooLarge line l) = CuredLimitPassed line l
verdict_of_cured_fault uncured.NoMemory = NoMemory

-- how the ending of a run is reported
abbrev pub verdict_of_run : Ending → Verdict
verdict_of_run (ending.Exited n) = Exited n
verdict_of_run (ending.Stopped check place) = Stopped check place
verdict_of_run ending.Turns = OutOfTurns
verdict_of_run (ending.Trap f) = Trapped f
verdict_of_run ending.ReadFault = InputFault
verdict_of_run ending.WriteFault = OutputFault
