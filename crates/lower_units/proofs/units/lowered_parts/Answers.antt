use Rattle.lower_units.proofs.units.lowered_parts.Goals as goal

pub static_homes-requires : goal.static_homes-requires
static_homes-requires c = c.requires.homes

pub initialisers-requires : goal.initialisers-requires
initialisers-requires c = rw c.in_ok-homes.ensures c.requires.initialisers

pub functions-requires : goal.functions-requires
functions-requires c = rw (c.as_slice.ensures, c.in_ok-homes.ensures) c.requires.functions
