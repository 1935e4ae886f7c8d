-- The rules on small texts.
use Rattle.std.proofs.Common.{◌≡◌, ℕ, List, [], ◌∷◌, refl, codes}
use Rattle.cc_base.specs.declared.place.Place.{Place}
use Rattle.c_lexer.specs.declared.word.Keyword.TheVariants as keyword
use Rattle.c_lexer.specs.declared.punctuator.Punctuator.TheVariants as mark
use Rattle.c_tree.specs.declared.leaf.Separator.TheVariants as separator
use Rattle.c_tree.specs.declared.operator.Assignment.TheVariants as assignment
use Rattle.c_tree.specs.declared.operator.Binary.TheVariants as binary
use Rattle.c_tree.specs.declared.operator.Step.TheVariants as step
use Rattle.c_tree.specs.declared.operator.Unary.TheVariants as unary
use Rattle.c_tree.specs.Grammar.{WithName}
use Rattle.c_tree.specs.Symbols.{Symbol, Name, Word, Mark, Bare}
use Rattle.c_tree.specs.Tree as tree
use Rattle.c_tree.specs.Words.{TypeNames, AtFile}
use Rattle.parse_rules.specs.Parsers.{Read, Stopped, Unsupported, Deep}
use Rattle.c_parse_words.specs.WordRules.{take, next_piece, star_step, next_qualifier, next_array_word}
use Rattle.c_expr_parse.specs.ExprRules.{declared, type_name, next_argument, arguments, with_suffix, postfix_step, postfix, after_paren, after_cast_paren, after_sizeof_paren, after_sizeof, operand_from, operand, with_operator, infix_step, with_question, with_assignment, comma_step, expr_layer}
use Rattle.c_expr_parse.specs.TypeRules.{specifiers_layer, with_type, specifier_step, with_specifier, after_aggregate, after_aggregate_tag, aggregate_without_tag, aggregate_body, members, next_members, member_declarators, next_member, after_enum, after_enum_tag, enum_without_tag, enumeration_body, enumeration, enumerators, enumerator_step, next_enumerator, with_name, with_value}
use Rattle.c_expr_parse.specs.DeclaratorRules.{declarator_layer, with_core, unnamed, after_core_paren, unnamed_function, nested, parts_from, part_step, with_part, function_part, array_part, without_size, parameters, next_parameter}
use Rattle.c_expr_parse.specs.Rules.{rules}

abbrev p : Place
p = record { line = 1; col = 1 }

abbrev a : Symbol
a = Name (codes "a") p

abbrev b : Symbol
b = Name (codes "b") p

abbrev c : Symbol
c = Name (codes "c") p

abbrev T : Symbol
T = Name (codes "T") p

abbrev names : TypeNames
names = codes "T" ∷ []

abbrev n : List ℕ → tree.Expr
n bytes = tree.Name (record { bytes = bytes; place = p })

abbrev ea : tree.Expr
ea = n (codes "a")

abbrev eb : tree.Expr
eb = n (codes "b")

abbrev ec : tree.Expr
ec = n (codes "c")

abbrev open_ : Symbol
open_ = Mark mark.OpenParen p

abbrev close_ : Symbol
close_ = Bare separator.CloseParen

abbrev eq : Symbol
eq = Mark mark.Equal p

abbrev star : Symbol
star = Mark mark.Star p

abbrev minus : Symbol
minus = Mark mark.Minus p

assign_right : (rules names 4).expr 0 (a ∷ eq ∷ b ∷ eq ∷ c ∷ []) ≡ Read (tree.Assign assignment.Assign ea p (tree.Assign assignment.Assign eb p ec)) []
unfolding rules expr_layer operand operand_from with_operator infix_step with_question with_assignment comma_step postfix postfix_step with_suffix arguments next_argument next_piece after_paren after_cast_paren after_sizeof after_sizeof_paren type_name declared take specifiers_layer with_type specifier_step with_specifier after_aggregate after_aggregate_tag aggregate_without_tag aggregate_body members next_members member_declarators next_member after_enum after_enum_tag enum_without_tag enumeration_body enumeration enumerators enumerator_step next_enumerator with_name with_value declarator_layer with_core unnamed after_core_paren unnamed_function nested star_step next_qualifier parts_from part_step with_part function_part array_part without_size next_array_word parameters next_parameter
assign_right = refl

subtract_left : (rules names 4).expr 0 (a ∷ minus ∷ b ∷ minus ∷ c ∷ []) ≡ Read (tree.Infix binary.Subtract (tree.Infix binary.Subtract ea p eb) p ec) []
unfolding rules expr_layer operand operand_from with_operator infix_step with_question with_assignment comma_step postfix postfix_step with_suffix arguments next_argument next_piece after_paren after_cast_paren after_sizeof after_sizeof_paren type_name declared take specifiers_layer with_type specifier_step with_specifier after_aggregate after_aggregate_tag aggregate_without_tag aggregate_body members next_members member_declarators next_member after_enum after_enum_tag enum_without_tag enumeration_body enumeration enumerators enumerator_step next_enumerator with_name with_value declarator_layer with_core unnamed after_core_paren unnamed_function nested star_step next_qualifier parts_from part_step with_part function_part array_part without_size next_array_word parameters next_parameter
subtract_left = refl

dereference_of_step : (rules names 4).expr 0 (star ∷ a ∷ Mark mark.PlusPlus p ∷ []) ≡ Read (tree.Prefix unary.Dereference p (tree.Postfix ea step.Increment p)) []
unfolding rules expr_layer operand operand_from with_operator infix_step with_question with_assignment comma_step postfix postfix_step with_suffix arguments next_argument next_piece after_paren after_cast_paren after_sizeof after_sizeof_paren type_name declared take specifiers_layer with_type specifier_step with_specifier after_aggregate after_aggregate_tag aggregate_without_tag aggregate_body members next_members member_declarators next_member after_enum after_enum_tag enum_without_tag enumeration_body enumeration enumerators enumerator_step next_enumerator with_name with_value declarator_layer with_core unnamed after_core_paren unnamed_function nested star_step next_qualifier parts_from part_step with_part function_part array_part without_size next_array_word parameters next_parameter
dereference_of_step = refl

cast_of_pointer : (rules names 4).expr 0 (open_ ∷ T ∷ close_ ∷ star ∷ a ∷ []) ≡ Read (tree.Cast p (tree.Named (tree.AndSpecifier tree.NoSpecifier (tree.Typedef (record { bytes = codes "T"; place = p }))) tree.NotDeclared) (tree.Prefix unary.Dereference p ea)) []
unfolding rules expr_layer operand operand_from with_operator infix_step with_question with_assignment comma_step postfix postfix_step with_suffix arguments next_argument next_piece after_paren after_cast_paren after_sizeof after_sizeof_paren type_name declared take specifiers_layer with_type specifier_step with_specifier after_aggregate after_aggregate_tag aggregate_without_tag aggregate_body members next_members member_declarators next_member after_enum after_enum_tag enum_without_tag enumeration_body enumeration enumerators enumerator_step next_enumerator with_name with_value declarator_layer with_core unnamed after_core_paren unnamed_function nested star_step next_qualifier parts_from part_step with_part function_part array_part without_size next_array_word parameters next_parameter
cast_of_pointer = refl

product : (rules names 4).expr 0 (open_ ∷ a ∷ close_ ∷ star ∷ b ∷ []) ≡ Read (tree.Infix binary.Multiply (tree.Paren p ea) p eb) []
unfolding rules expr_layer operand operand_from with_operator infix_step with_question with_assignment comma_step postfix postfix_step with_suffix arguments next_argument next_piece after_paren after_cast_paren after_sizeof after_sizeof_paren type_name declared take specifiers_layer with_type specifier_step with_specifier after_aggregate after_aggregate_tag aggregate_without_tag aggregate_body members next_members member_declarators next_member after_enum after_enum_tag enum_without_tag enumeration_body enumeration enumerators enumerator_step next_enumerator with_name with_value declarator_layer with_core unnamed after_core_paren unnamed_function nested star_step next_qualifier parts_from part_step with_part function_part array_part without_size next_array_word parameters next_parameter
product = refl

sizeof_times : (rules names 4).expr 0 (Word keyword.Sizeof p ∷ open_ ∷ Word keyword.Int p ∷ close_ ∷ star ∷ a ∷ []) ≡ Read (tree.Infix binary.Multiply (tree.SizeOfType p p (tree.Named (tree.AndSpecifier tree.NoSpecifier (tree.Keyword (record { keyword = keyword.Int; place = p }))) tree.NotDeclared)) p ea) []
unfolding rules expr_layer operand operand_from with_operator infix_step with_question with_assignment comma_step postfix postfix_step with_suffix arguments next_argument next_piece after_paren after_cast_paren after_sizeof after_sizeof_paren type_name declared take specifiers_layer with_type specifier_step with_specifier after_aggregate after_aggregate_tag aggregate_without_tag aggregate_body members next_members member_declarators next_member after_enum after_enum_tag enum_without_tag enumeration_body enumeration enumerators enumerator_step next_enumerator with_name with_value declarator_layer with_core unnamed after_core_paren unnamed_function nested star_step next_qualifier parts_from part_step with_part function_part array_part without_size next_array_word parameters next_parameter
sizeof_times = refl

sizeof_plus : (rules names 4).expr 0 (Word keyword.Sizeof p ∷ a ∷ Mark mark.Plus p ∷ b ∷ []) ≡ Read (tree.Infix binary.Add (tree.Prefix unary.SizeOf p ea) p eb) []
unfolding rules expr_layer operand operand_from with_operator infix_step with_question with_assignment comma_step postfix postfix_step with_suffix arguments next_argument next_piece after_paren after_cast_paren after_sizeof after_sizeof_paren type_name declared take specifiers_layer with_type specifier_step with_specifier after_aggregate after_aggregate_tag aggregate_without_tag aggregate_body members next_members member_declarators next_member after_enum after_enum_tag enum_without_tag enumeration_body enumeration enumerators enumerator_step next_enumerator with_name with_value declarator_layer with_core unnamed after_core_paren unnamed_function nested star_step next_qualifier parts_from part_step with_part function_part array_part without_size next_array_word parameters next_parameter
sizeof_plus = refl

conditional : (rules names 4).expr 0 (a ∷ Mark mark.Question p ∷ b ∷ Bare separator.Colon ∷ c ∷ Mark mark.Question p ∷ a ∷ Bare separator.Colon ∷ b ∷ []) ≡ Read (tree.Conditional ea p eb (tree.Conditional ec p ea eb)) []
unfolding rules expr_layer operand operand_from with_operator infix_step with_question with_assignment comma_step postfix postfix_step with_suffix arguments next_argument next_piece after_paren after_cast_paren after_sizeof after_sizeof_paren type_name declared take specifiers_layer with_type specifier_step with_specifier after_aggregate after_aggregate_tag aggregate_without_tag aggregate_body members next_members member_declarators next_member after_enum after_enum_tag enum_without_tag enumeration_body enumeration enumerators enumerator_step next_enumerator with_name with_value declarator_layer with_core unnamed after_core_paren unnamed_function nested star_step next_qualifier parts_from part_step with_part function_part array_part without_size next_array_word parameters next_parameter
conditional = refl

no_assignment_to_sum : (rules names 4).expr 0 (a ∷ minus ∷ b ∷ eq ∷ c ∷ []) ≡ Read (tree.Infix binary.Subtract ea p eb) (eq ∷ c ∷ [])
unfolding rules expr_layer operand operand_from with_operator infix_step with_question with_assignment comma_step postfix postfix_step with_suffix arguments next_argument next_piece after_paren after_cast_paren after_sizeof after_sizeof_paren type_name declared take specifiers_layer with_type specifier_step with_specifier after_aggregate after_aggregate_tag aggregate_without_tag aggregate_body members next_members member_declarators next_member after_enum after_enum_tag enum_without_tag enumeration_body enumeration enumerators enumerator_step next_enumerator with_name with_value declarator_layer with_core unnamed after_core_paren unnamed_function nested star_step next_qualifier parts_from part_step with_part function_part array_part without_size next_array_word parameters next_parameter
no_assignment_to_sum = refl

compound : (rules names 4).expr 0 (open_ ∷ Word keyword.Int p ∷ close_ ∷ Mark mark.OpenBrace p ∷ a ∷ []) ≡ Stopped Unsupported (Mark mark.OpenBrace p ∷ a ∷ [])
unfolding rules expr_layer operand operand_from with_operator infix_step with_question with_assignment comma_step postfix postfix_step with_suffix arguments next_argument next_piece after_paren after_cast_paren after_sizeof after_sizeof_paren type_name declared take specifiers_layer with_type specifier_step with_specifier after_aggregate after_aggregate_tag aggregate_without_tag aggregate_body members next_members member_declarators next_member after_enum after_enum_tag enum_without_tag enumeration_body enumeration enumerators enumerator_step next_enumerator with_name with_value declarator_layer with_core unnamed after_core_paren unnamed_function nested star_step next_qualifier parts_from part_step with_part function_part array_part without_size next_array_word parameters next_parameter
compound = refl

long_long : (rules names 4).specifiers AtFile (Word keyword.Long p ∷ Word keyword.Long p ∷ a ∷ []) ≡ Stopped Unsupported (Word keyword.Long p ∷ a ∷ [])
unfolding rules expr_layer operand operand_from with_operator infix_step with_question with_assignment comma_step postfix postfix_step with_suffix arguments next_argument next_piece after_paren after_cast_paren after_sizeof after_sizeof_paren type_name declared take specifiers_layer with_type specifier_step with_specifier after_aggregate after_aggregate_tag aggregate_without_tag aggregate_body members next_members member_declarators next_member after_enum after_enum_tag enum_without_tag enumeration_body enumeration enumerators enumerator_step next_enumerator with_name with_value declarator_layer with_core unnamed after_core_paren unnamed_function nested star_step next_qualifier parts_from part_step with_part function_part array_part without_size next_array_word parameters next_parameter
long_long = refl

bit_field : (rules names 4).specifiers AtFile (Word keyword.Struct p ∷ a ∷ Mark mark.OpenBrace p ∷ Word keyword.Int p ∷ b ∷ Bare separator.Colon ∷ c ∷ []) ≡ Stopped Unsupported (Bare separator.Colon ∷ c ∷ [])
unfolding rules expr_layer operand operand_from with_operator infix_step with_question with_assignment comma_step postfix postfix_step with_suffix arguments next_argument next_piece after_paren after_cast_paren after_sizeof after_sizeof_paren type_name declared take specifiers_layer with_type specifier_step with_specifier after_aggregate after_aggregate_tag aggregate_without_tag aggregate_body members next_members member_declarators next_member after_enum after_enum_tag enum_without_tag enumeration_body enumeration enumerators enumerator_step next_enumerator with_name with_value declarator_layer with_core unnamed after_core_paren unnamed_function nested star_step next_qualifier parts_from part_step with_part function_part array_part without_size next_array_word parameters next_parameter
bit_field = refl

deep_parens : (rules names 3).expr 0 (open_ ∷ open_ ∷ open_ ∷ open_ ∷ a ∷ []) ≡ Stopped Deep (open_ ∷ a ∷ [])
unfolding rules expr_layer operand operand_from with_operator infix_step with_question with_assignment comma_step postfix postfix_step with_suffix arguments next_argument next_piece after_paren after_cast_paren after_sizeof after_sizeof_paren type_name declared take specifiers_layer with_type specifier_step with_specifier after_aggregate after_aggregate_tag aggregate_without_tag aggregate_body members next_members member_declarators next_member after_enum after_enum_tag enum_without_tag enumeration_body enumeration enumerators enumerator_step next_enumerator with_name with_value declarator_layer with_core unnamed after_core_paren unnamed_function nested star_step next_qualifier parts_from part_step with_part function_part array_part without_size next_array_word parameters next_parameter
deep_parens = refl

pointer_to_array : (rules names 4).declarator WithName (open_ ∷ star ∷ a ∷ close_ ∷ Mark mark.OpenBracket p ∷ b ∷ Bare separator.CloseBracket ∷ c ∷ []) ≡ Read (tree.Declares [] (tree.Nested p (tree.Declares (record { place = p; qualifiers = [] } ∷ []) (tree.Names (record { bytes = codes "a"; place = p })) tree.NoPart)) (tree.AndSizedArray tree.NoPart p [] eb)) (c ∷ [])
unfolding rules expr_layer operand operand_from with_operator infix_step with_question with_assignment comma_step postfix postfix_step with_suffix arguments next_argument next_piece after_paren after_cast_paren after_sizeof after_sizeof_paren type_name declared take specifiers_layer with_type specifier_step with_specifier after_aggregate after_aggregate_tag aggregate_without_tag aggregate_body members next_members member_declarators next_member after_enum after_enum_tag enum_without_tag enumeration_body enumeration enumerators enumerator_step next_enumerator with_name with_value declarator_layer with_core unnamed after_core_paren unnamed_function nested star_step next_qualifier parts_from part_step with_part function_part array_part without_size next_array_word parameters next_parameter
pointer_to_array = refl
