use Rattle.std.specs.Prelude.{ℕ, List, codes}
use Rattle.cc_base.specs.declared.kind.Kind.{Kind}
use Rattle.cc_base.specs.declared.kind.Kind.TheVariants.{Safe, Seq, Rtti, Wild}
use Rattle.cc_base.specs.declared.fault.Check.{Check}
use Rattle.cc_base.specs.declared.fault.Check.TheVariants.{Null, Bounds, Wbounds, Base, Range, Tag, Align, Cast, Escape, Fun, Same, Divide, Depth as TooDeep}
use Rattle.cc_base.specs.declared.fault.Rule.{Rule}
use Rattle.cc_base.specs.declared.fault.Rule.TheVariants.{BadByte, OpenComment, OpenText, BadNumber, Syntax, Unsupported, UnknownName, Redeclared, Incomplete, Mismatch, NotPlace, NotConstant, BadCall, NoMain}
use Rattle.cc_base.specs.declared.fault.Limit.{Limit}
use Rattle.cc_base.specs.declared.fault.Limit.TheVariants.{Depth, Held, Types, Object, Params, Functions, Globals, Cells}

-- The names that reports write, as bytes.

abbrev pub kind_name : Kind → List ℕ
kind_name Safe = codes "SAFE"
kind_name Seq = codes "SEQ"
kind_name Rtti = codes "RTTI"
kind_name Wild = codes "WILD"

abbrev pub check_name : Check → List ℕ
check_name Null = codes "NULL"
check_name Bounds = codes "BOUNDS"
check_name Wbounds = codes "WBOUNDS"
check_name Base = codes "BASE"
check_name Range = codes "RANGE"
check_name Tag = codes "TAG"
check_name Align = codes "ALIGN"
check_name Cast = codes "CAST"
check_name Escape = codes "ESCAPE"
check_name Fun = codes "FUN"
check_name Same = codes "SAME"
check_name Divide = codes "DIVIDE"
check_name TooDeep = codes "DEPTH"

abbrev pub rule_name : Rule → List ℕ
rule_name BadByte = codes "BadByte"
rule_name OpenComment = codes "OpenComment"
rule_name OpenText = codes "OpenText"
rule_name BadNumber = codes "BadNumber"
rule_name Syntax = codes "Syntax"
rule_name Unsupported = codes "Unsupported"
rule_name UnknownName = codes "UnknownName"
rule_name Redeclared = codes "Redeclared"
rule_name Incomplete = codes "Incomplete"
rule_name Mismatch = codes "Mismatch"
rule_name NotPlace = codes "NotPlace"
rule_name NotConstant = codes "NotConstant"
rule_name BadCall = codes "BadCall"
rule_name NoMain = codes "NoMain"

abbrev pub limit_name : Limit → List ℕ
limit_name Depth = codes "depth"
limit_name Held = codes "held"
limit_name Types = codes "types"
limit_name Object = codes "object"
limit_name Params = codes "params"
limit_name Functions = codes "functions"
limit_name Globals = codes "globals"
limit_name Cells = codes "cells"
