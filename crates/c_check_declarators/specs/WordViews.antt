-- What the code counts of words, as plain data.
use Rattle.std.specs.Prelude.{◌<◌}
use Rattle.c_typing.specs.Declarators.{Counted}
use Rattle.c_check_declarators.specs.declared.words.Tally.{Tally}

abbrev pub tally_view : Tally → Counted
tally_view t = record {
  void = t.void;
  char = t.char;
  short = t.short;
  int = t.int;
  long = t.long;
  signed = t.signed;
  unsigned = t.unsigned;
  storage = t.storage;
  named = t.named;
}

-- one more of each can be counted
pub record IsSmall (c : Counted) : Type 0 where
  pub void : c.void < 255
  pub char : c.char < 255
  pub short : c.short < 255
  pub int : c.int < 255
  pub long : c.long < 255
  pub signed : c.signed < 255
  pub unsigned : c.unsigned < 255
  pub storage : c.storage < 255
  pub named : c.named < 255
