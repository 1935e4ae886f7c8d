-- The rule for units on small texts.
use Rattle.std.proofs.Common.{◌≡◌, ℕ, List, [], ◌∷◌, refl, codes}
use Rattle.cc_base.specs.declared.place.Place.{Place}
use Rattle.c_lexer.specs.declared.word.Keyword.TheVariants as keyword
use Rattle.c_tree.specs.declared.leaf.Separator.TheVariants as separator
use Rattle.c_tree.specs.Symbols.{Symbol, Name, Word, Bare}
use Rattle.c_tree.specs.Tree as tree
use Rattle.parse_rules.specs.Parsers.{Read, Stopped, Syntax, Unsupported}
use Rattle.c_parse_words.specs.WordRules.{take, next_piece, star_step, next_qualifier, next_array_word}
use Rattle.c_expr_parse.specs.ExprRules.{declared, type_name, next_argument, arguments, with_suffix, postfix_step, postfix, after_paren, after_cast_paren, after_sizeof_paren, after_sizeof, operand_from, operand, with_operator, infix_step, with_question, with_assignment, comma_step, expr_layer}
use Rattle.c_expr_parse.specs.TypeRules.{specifiers_layer, with_type, specifier_step, with_specifier, after_aggregate, after_aggregate_tag, aggregate_without_tag, aggregate_body, members, next_members, member_declarators, next_member, after_enum, after_enum_tag, enum_without_tag, enumeration_body, enumeration, enumerators, enumerator_step, next_enumerator, with_name, with_value}
use Rattle.c_expr_parse.specs.DeclaratorRules.{declarator_layer, with_core, unnamed, after_core_paren, unnamed_function, nested, parts_from, part_step, with_part, function_part, array_part, without_size, parameters, next_parameter}
use Rattle.c_expr_parse.specs.Rules.{rules, initialiser, initialiser_from, value, initialiser_list, item_step as init_item_step, next_item, listed}
use Rattle.c_parser.specs.DeclarationRules.{with_initialiser, next_declarator, declarators_from, init_declarators, declaration}
use Rattle.c_parser.specs.StatementRules.{optional, with_label, next_declaration, next_statement, unlabelled, item_step, end_of_items, block_items, condition, with_else, for_rest, for_expr, for_declaration, statement_from, statement}
use Rattle.c_parser.specs.UnitRules.{function_body, after_declarator, external, at_end, unit_rule}

abbrev p : Place
p = record { line = 1; col = 1 }

abbrev int_ : Symbol
int_ = Word keyword.Int p

abbrev x : Symbol
x = Name (codes "x") p

abbrev T : Symbol
T = Name (codes "T") p

abbrev semi : Symbol
semi = Bare separator.Semicolon

abbrev int_list : tree.Specifiers
int_list = tree.AndSpecifier tree.NoSpecifier (tree.Keyword (record { keyword = keyword.Int; place = p }))

abbrev plain : List ℕ → tree.Declarator
plain bytes = tree.Declares [] (tree.Names (record { bytes = bytes; place = p })) tree.NoPart

-- no tokens
row_empty : unit_rule 2 [] ≡ Read tree.NoExternal []
unfolding unit_rule at_end
row_empty = refl

-- `int x;`
row_int : unit_rule 2 (int_ ∷ x ∷ semi ∷ []) ≡ Read (tree.AndExternal tree.NoExternal (tree.Declare int_list (tree.AndPlain tree.NoInitDeclarator (plain (codes "x"))))) []
unfolding take declared type_name next_argument arguments with_suffix postfix_step postfix next_piece after_paren after_cast_paren after_sizeof_paren after_sizeof operand_from operand with_operator infix_step with_question with_assignment comma_step expr_layer specifiers_layer with_type specifier_step with_specifier after_aggregate after_aggregate_tag aggregate_without_tag aggregate_body members next_members member_declarators next_member after_enum after_enum_tag enum_without_tag enumeration_body enumeration enumerators enumerator_step next_enumerator with_name with_value declarator_layer with_core unnamed after_core_paren unnamed_function nested star_step next_qualifier parts_from part_step with_part function_part array_part without_size next_array_word parameters next_parameter rules initialiser initialiser_from value initialiser_list init_item_step next_item listed with_initialiser next_declarator declarators_from init_declarators declaration optional with_label next_declaration next_statement unlabelled item_step end_of_items block_items condition with_else for_rest for_expr for_declaration statement_from statement function_body after_declarator external at_end unit_rule
row_int = refl

-- `int x; ;`: a semicolon begins no declaration
row_stray : unit_rule 2 (int_ ∷ x ∷ semi ∷ semi ∷ []) ≡ Stopped Syntax (semi ∷ [])
unfolding take declared type_name next_argument arguments with_suffix postfix_step postfix next_piece after_paren after_cast_paren after_sizeof_paren after_sizeof operand_from operand with_operator infix_step with_question with_assignment comma_step expr_layer specifiers_layer with_type specifier_step with_specifier after_aggregate after_aggregate_tag aggregate_without_tag aggregate_body members next_members member_declarators next_member after_enum after_enum_tag enum_without_tag enumeration_body enumeration enumerators enumerator_step next_enumerator with_name with_value declarator_layer with_core unnamed after_core_paren unnamed_function nested star_step next_qualifier parts_from part_step with_part function_part array_part without_size next_array_word parameters next_parameter rules initialiser initialiser_from value initialiser_list init_item_step next_item listed with_initialiser next_declarator declarators_from init_declarators declaration optional with_label next_declaration next_statement unlabelled item_step end_of_items block_items condition with_else for_rest for_expr for_declaration statement_from statement function_body after_declarator external at_end unit_rule
row_stray = refl

-- `int x`: refused at the end
row_unfinished : unit_rule 2 (int_ ∷ x ∷ []) ≡ Stopped Syntax []
unfolding take declared type_name next_argument arguments with_suffix postfix_step postfix next_piece after_paren after_cast_paren after_sizeof_paren after_sizeof operand_from operand with_operator infix_step with_question with_assignment comma_step expr_layer specifiers_layer with_type specifier_step with_specifier after_aggregate after_aggregate_tag aggregate_without_tag aggregate_body members next_members member_declarators next_member after_enum after_enum_tag enum_without_tag enumeration_body enumeration enumerators enumerator_step next_enumerator with_name with_value declarator_layer with_core unnamed after_core_paren unnamed_function nested star_step next_qualifier parts_from part_step with_part function_part array_part without_size next_array_word parameters next_parameter rules initialiser initialiser_from value initialiser_list init_item_step next_item listed with_initialiser next_declarator declarators_from init_declarators declaration optional with_label next_declaration next_statement unlabelled item_step end_of_items block_items condition with_else for_rest for_expr for_declaration statement_from statement function_body after_declarator external at_end unit_rule
row_unfinished = refl

-- `long long x;`
row_long : unit_rule 2 (Word keyword.Long p ∷ Word keyword.Long p ∷ x ∷ semi ∷ []) ≡ Stopped Unsupported (Word keyword.Long p ∷ x ∷ semi ∷ [])
unfolding take declared type_name next_argument arguments with_suffix postfix_step postfix next_piece after_paren after_cast_paren after_sizeof_paren after_sizeof operand_from operand with_operator infix_step with_question with_assignment comma_step expr_layer specifiers_layer with_type specifier_step with_specifier after_aggregate after_aggregate_tag aggregate_without_tag aggregate_body members next_members member_declarators next_member after_enum after_enum_tag enum_without_tag enumeration_body enumeration enumerators enumerator_step next_enumerator with_name with_value declarator_layer with_core unnamed after_core_paren unnamed_function nested star_step next_qualifier parts_from part_step with_part function_part array_part without_size next_array_word parameters next_parameter rules initialiser initialiser_from value initialiser_list init_item_step next_item listed with_initialiser next_declarator declarators_from init_declarators declaration optional with_label next_declaration next_statement unlabelled item_step end_of_items block_items condition with_else for_rest for_expr for_declaration statement_from statement function_body after_declarator external at_end unit_rule
row_long = refl

-- `typedef int T; T x;`: the name is in force from its declarator on
row_typedef : unit_rule 2 (Word keyword.Typedef p ∷ int_ ∷ T ∷ semi ∷ T ∷ x ∷ semi ∷ []) ≡ Read (tree.AndExternal (tree.AndExternal tree.NoExternal (tree.Declare (tree.AndSpecifier (tree.AndSpecifier tree.NoSpecifier (tree.Keyword (record { keyword = keyword.Typedef; place = p }))) (tree.Keyword (record { keyword = keyword.Int; place = p }))) (tree.AndPlain tree.NoInitDeclarator (plain (codes "T"))))) (tree.Declare (tree.AndSpecifier tree.NoSpecifier (tree.Typedef (record { bytes = codes "T"; place = p }))) (tree.AndPlain tree.NoInitDeclarator (plain (codes "x"))))) []
unfolding take declared type_name next_argument arguments with_suffix postfix_step postfix next_piece after_paren after_cast_paren after_sizeof_paren after_sizeof operand_from operand with_operator infix_step with_question with_assignment comma_step expr_layer specifiers_layer with_type specifier_step with_specifier after_aggregate after_aggregate_tag aggregate_without_tag aggregate_body members next_members member_declarators next_member after_enum after_enum_tag enum_without_tag enumeration_body enumeration enumerators enumerator_step next_enumerator with_name with_value declarator_layer with_core unnamed after_core_paren unnamed_function nested star_step next_qualifier parts_from part_step with_part function_part array_part without_size next_array_word parameters next_parameter rules initialiser initialiser_from value initialiser_list init_item_step next_item listed with_initialiser next_declarator declarators_from init_declarators declaration optional with_label next_declaration next_statement unlabelled item_step end_of_items block_items condition with_else for_rest for_expr for_declaration statement_from statement function_body after_declarator external at_end unit_rule
row_typedef = refl
