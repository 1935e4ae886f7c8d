use Rattle.std.proofs.Common.{ap, sym, ◌∙◌, ◌≡◌, Some, map, reverse}
use Rattle.std.specs.Prelude.{option_map}
use Rattle.c_tree.specs.Grammar.{declared_name, names_after}
use Rattle.c_tree.specs.Views.{declarator_view}
use Rattle.c_parse_words.specs.Seen.{names_of}
use Rattle.c_parser.proofs.NameInsertion.{declared_after, inserted, name_is}
use Rattle.c_parser.proofs.externals.declare.Goals as goal

pub returns : goal.returns
returns c =
    let names = names_of c.args.names.now in
    let x = declarator_view c.args.declarator.now in
    let named : declared_name x ≡ Some c.in_ok-bytes.bytes.items =
    sym c.name.ensures ∙ ap (option_map _) c.in-Some.is ∙ ap Some (sym (c.in_ok-bytes.ensures.items ∙ c.as_slice.ensures)) in
    ap (λ keys. reverse (map (λ k. k.items) keys)) c.in_ok-insert.ensures.keys
    ∙ inserted c.args.names.now.keys c.in_ok-bytes.bytes (name_is names _ _ c.requires named)
    ∙ sym (ap (λ b. names_after b names x) c.if-not-is_typedef.false ∙ declared_after names x _ named)
