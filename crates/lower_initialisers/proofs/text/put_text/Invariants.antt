use Rattle.std.proofs.Common.{◌≡◌, take}
use Rattle.lower_rules.specs.Pieces.{Line}
use Rattle.lower_rules.specs.Initialisers.{text_code}
use Rattle.lower_exprs.specs.Drafts.{context_of, Grows}
use Rattle.lower_exprs.specs.Ready.{IsConstant}
use Rattle.lower_initialisers.specs.Ready.{initialised_of}
use Rattle.lower_initialisers.proofs.text.put_text.Given as goal

abbrev pub invariant-loop-b : goal.invariant-loop-b
invariant-loop-b l = record {
  made : Grows (Line (text_code (context_of l.k).table (initialised_of l.p.whole) l.element l.p.at l.p.base (take l.b-index l.bytes)))
      (IsConstant (context_of l.k) l.element) l.fn.out l.out;
  number : l.i ≡ l.b-index;
}
