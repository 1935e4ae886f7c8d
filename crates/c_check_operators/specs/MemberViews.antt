-- The number of a member and its node, as the code has them.
use Rattle.c_typing.specs.Operations as operations
use Rattle.c_check_operators.specs.declared.member_places.FoundMember.{FoundMember}

abbrev pub found_view : FoundMember → operations.Found
found_view f = record { member = f.member; node = f.node }
