-- Each choice of the parser keeps what its stack means.
use Rattle.std.proofs.Common.{ℕ, true, false, List}
use Rattle.c_lex.specs.Lexeme.{Kind}
use Rattle.c_grammar.specs.declared.symbol.Symbol.{Symbol}
use Rattle.c_grammar.specs.declared.symbol.Symbol.TheVariants as symbol
use Rattle.c_grammar.specs.Tree.{Name}
use Rattle.c_grammar.specs.Spells.{token}
use Rattle.c_grammar.specs.CodeChoice.{choice_of}
use Rattle.c_grammar.specs.CodeStack.{is_type}
use Rattle.c_grammar.proofs.Means.{same, plain, made_true, made_false, Sound}
use Rattle.c_grammar.proofs.SoundExpressions.{words_sound, operand_sound, opened_sound, tail_sound, arguments_sound, arguments_more_sound}
use Rattle.c_grammar.proofs.SoundTypes.{struct_tag_sound, struct_body_sound, enum_tag_sound, enum_body_sound, members_sound, members_more_sound, declarators_more_sound, stars_sound, dimensions_sound, enumerators_sound, enum_value_sound, enum_more_sound, enum_next_sound}
use Rattle.c_grammar.proofs.SoundStatements.{statement_sound, return_value_sound, else_sound, items_sound, init_value_sound, init_more_sound, for_start_sound, for_test_sound, for_step_sound, groups_sound, labels_sound}
use Rattle.c_grammar.proofs.SoundExternals.{top_parameters_sound, top_value_sound, top_more_sound, tops_sound, first_parameters_sound, first_rest_sound, parameters_sound, parameters_more_sound, parameter_name_sound, parameter_bracket_sound, bracket_rest_sound, externals_sound, left_parenthesis_sound, right_parenthesis_sound, right_bracket_sound, left_brace_sound, right_brace_sound, semicolon_sound, colon_sound, while_word_sound, identifier_sound, new_name_sound}

-- every choice
pub sound : (ns next : List Name) (s : Symbol) (k : Kind) (a z : ℕ) → Sound ns next s (token k a z) (choice_of s (is_type ns k) k)
unfolding choice_of
sound ns next symbol.LeftParenthesis k a z = left_parenthesis_sound ns next k a z
sound ns next symbol.RightParenthesis k a z = right_parenthesis_sound ns next k a z
sound ns next symbol.RightBracket k a z = right_bracket_sound ns next k a z
sound ns next symbol.LeftBrace k a z = left_brace_sound ns next k a z
sound ns next symbol.RightBrace k a z = right_brace_sound ns next k a z
sound ns next symbol.Semicolon k a z = semicolon_sound ns next k a z
sound ns next symbol.Colon k a z = colon_sound ns next k a z
sound ns next symbol.While k a z = while_word_sound ns next k a z
sound ns next symbol.Identifier k a z = identifier_sound ns next k a z
sound ns next symbol.NewName k a z = new_name_sound ns next k a z
sound ns next (symbol.Expression b w) k a z = operand_sound ns next b w k a z
sound ns next (symbol.Open b w) k a z = opened_sound ns next b w k a z
sound ns next (symbol.Tail b w r) k a z = tail_sound ns next b w r k a z
sound ns next (symbol.Arguments b) k a z = arguments_sound ns next b k a z
sound ns next (symbol.ArgumentsMore b) k a z = arguments_more_sound ns next b k a z
sound ns next (symbol.Words b q) k a z = words_sound ns next b q k a z
sound ns next (symbol.StructTag b) k a z = struct_tag_sound ns next b k a z
sound ns next (symbol.StructBody b) k a z = struct_body_sound ns next b k a z
sound ns next symbol.Members k a z = members_sound ns next k a z
sound ns next symbol.MembersMore k a z = members_more_sound ns next k a z
sound ns next symbol.DeclaratorsMore k a z = declarators_more_sound ns next k a z
sound ns next (symbol.Stars f) k a z = stars_sound ns next f k a z
sound ns next (symbol.Dimensions b) k a z = dimensions_sound ns next b k a z
sound ns next (symbol.EnumTag b) k a z = enum_tag_sound ns next b k a z
sound ns next (symbol.EnumBody b) k a z = enum_body_sound ns next b k a z
sound ns next symbol.Enumerators k a z = enumerators_sound ns next k a z
sound ns next symbol.EnumValue k a z = enum_value_sound ns next k a z
sound ns next symbol.EnumMore k a z = enum_more_sound ns next k a z
sound ns next symbol.EnumNext k a z = enum_next_sound ns next k a z
sound ns next symbol.Statement k a z = statement_sound ns next k a z
sound ns next symbol.ReturnValue k a z = return_value_sound ns next k a z
sound ns next symbol.Else k a z = else_sound ns next k a z
sound ns next symbol.Items k a z = items_sound ns next k a z
sound ns next symbol.InitValue k a z = init_value_sound ns next k a z
sound ns next symbol.InitMore k a z = init_more_sound ns next k a z
sound ns next symbol.ForStart k a z = for_start_sound ns next k a z
sound ns next symbol.ForTest k a z = for_test_sound ns next k a z
sound ns next symbol.ForStep k a z = for_step_sound ns next k a z
sound ns next symbol.Groups k a z = groups_sound ns next k a z
sound ns next symbol.Labels k a z = labels_sound ns next k a z
sound ns next symbol.Externals k a z = externals_sound ns next k a z
sound ns next (symbol.Tops f) k a z = tops_sound ns next f k a z
sound ns next symbol.TopParameters k a z = top_parameters_sound ns next k a z
sound ns next symbol.TopValue k a z = top_value_sound ns next k a z
sound ns next symbol.TopMore k a z = top_more_sound ns next k a z
sound ns next symbol.FirstParameters k a z = first_parameters_sound ns next k a z
sound ns next symbol.FirstRest k a z = first_rest_sound ns next k a z
sound ns next symbol.Parameters k a z = parameters_sound ns next k a z
sound ns next symbol.ParametersMore k a z = parameters_more_sound ns next k a z
sound ns next symbol.ParameterName k a z = parameter_name_sound ns next k a z
sound ns next symbol.ParameterBracket k a z = parameter_bracket_sound ns next k a z
sound ns next symbol.BracketRest k a z = bracket_rest_sound ns next k a z
sound ns next (symbol.Made true) k a z = λ s. made_true
sound ns next (symbol.Made false) k a z = λ s. made_false
sound ns next (symbol.End p) k a z = λ s. plain same
