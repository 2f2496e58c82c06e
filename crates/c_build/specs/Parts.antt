-- The parts that each production takes, by their forms: where one is missing, the production cannot end.
use Rattle.std.specs.Prelude.{Bool, true, false, List, [], ◌∷◌, Some}
use Rattle.c_grammar.specs.Tree as tree
use Rattle.c_grammar.specs.declared.symbol.Production.{Production}
use Rattle.c_grammar.specs.declared.symbol.Production.TheVariants as ends
use Rattle.c_grammar.specs.CodeBuild.{Value, OfBracket, OfCall, OfDeclarator, OfDeclarators, OfDimensions, OfEnumerator, OfEnumerators, OfExp, OfExps, OfExternal, OfGroups, OfInit, OfInits, OfItems, OfLabel, OfLabels, OfLocal, OfMembers, OfParam, OfParamName, OfParameters, OfParams, OfRhs, OfSimple, OfStars, OfStart, OfStep, OfStmt, OfTest, OfTop, OfTops, OfType, OfUnit, OfWord, OfWords, Tok}

-- whether a value is of a form

abbrev pub is_token : Value → Bool
is_token (Tok x) = true
is_token v = false

abbrev pub is_expression : Value → Bool
is_expression (OfExp x) = true
is_expression v = false

-- an expression that is a name
abbrev pub is_name : Value → Bool
is_name (OfExp (tree.Variable a n)) = true
is_name v = false

abbrev pub is_type_name : Value → Bool
is_type_name (OfType x) = true
is_type_name v = false

abbrev pub is_word : Value → Bool
is_word (OfWord x) = true
is_word v = false

abbrev pub is_words : Value → Bool
is_words (OfWords x) = true
is_words v = false

abbrev pub is_members : Value → Bool
is_members (OfMembers x) = true
is_members v = false

abbrev pub is_declarators : Value → Bool
is_declarators (OfDeclarators x) = true
is_declarators v = false

abbrev pub is_declarator : Value → Bool
is_declarator (OfDeclarator x) = true
is_declarator v = false

abbrev pub is_dimensions : Value → Bool
is_dimensions (OfDimensions x) = true
is_dimensions v = false

abbrev pub is_stars : Value → Bool
is_stars (OfStars x) = true
is_stars v = false

abbrev pub is_enumerators : Value → Bool
is_enumerators (OfEnumerators x) = true
is_enumerators v = false

abbrev pub is_enumerator : Value → Bool
is_enumerator (OfEnumerator x) = true
is_enumerator v = false

abbrev pub is_arguments : Value → Bool
is_arguments (OfExps x) = true
is_arguments v = false

abbrev pub is_call : Value → Bool
is_call (OfCall x) = true
is_call v = false

abbrev pub is_right : Value → Bool
is_right (OfRhs x) = true
is_right v = false

abbrev pub is_simple : Value → Bool
is_simple (OfSimple x) = true
is_simple v = false

abbrev pub is_initial : Value → Bool
is_initial (OfInit x) = true
is_initial v = false

abbrev pub is_inits : Value → Bool
is_inits (OfInits x) = true
is_inits v = false

abbrev pub is_local : Value → Bool
is_local (OfLocal x) = true
is_local v = false

abbrev pub is_label : Value → Bool
is_label (OfLabel x) = true
is_label v = false

abbrev pub is_labels : Value → Bool
is_labels (OfLabels x) = true
is_labels v = false

abbrev pub is_start : Value → Bool
is_start (OfStart x) = true
is_start v = false

abbrev pub is_test : Value → Bool
is_test (OfTest x) = true
is_test v = false

abbrev pub is_step : Value → Bool
is_step (OfStep x) = true
is_step v = false

abbrev pub is_statement : Value → Bool
is_statement (OfStmt x) = true
is_statement v = false

abbrev pub is_items : Value → Bool
is_items (OfItems x) = true
is_items v = false

abbrev pub is_groups : Value → Bool
is_groups (OfGroups x) = true
is_groups v = false

abbrev pub is_bracket : Value → Bool
is_bracket (OfBracket x) = true
is_bracket v = false

abbrev pub is_parameter_name : Value → Bool
is_parameter_name (OfParamName x) = true
is_parameter_name v = false

abbrev pub is_parameter : Value → Bool
is_parameter (OfParam x) = true
is_parameter v = false

abbrev pub is_parameter_list : Value → Bool
is_parameter_list (OfParams x) = true
is_parameter_list v = false

abbrev pub is_parameters : Value → Bool
is_parameters (OfParameters x) = true
is_parameters v = false

-- the parameters of a declarator that has some, or none in its parentheses
abbrev pub has_parameters : Value → Bool
has_parameters (OfParameters (Some x)) = true
has_parameters v = false

abbrev pub is_top : Value → Bool
is_top (OfTop x) = true
is_top v = false

abbrev pub is_tops : Value → Bool
is_tops (OfTops x) = true
is_tops v = false

abbrev pub is_external : Value → Bool
is_external (OfExternal x) = true
is_external v = false

abbrev pub is_text : Value → Bool
is_text (OfUnit x) = true
is_text v = false

-- whether there is a last value, of this form
abbrev pub top_is : (Value → Bool) → List Value → Bool
top_is test [] = false
top_is test (v ∷ vs) = test v

-- the values without the last one
abbrev pub below : List Value → List Value
below [] = []
below (v ∷ vs) = vs

-- whether the last values are of these forms
abbrev pub fits : List (Value → Bool) → List Value → Bool
fits [] vs = true
fits (test ∷ tests) vs = elim (top_is test vs) [ true ↦ fits tests (below vs) | false ↦ false ]

-- the forms of a production's parts, the last one first
abbrev pub parts : Production → List (Value → Bool)
parts ends.Name = is_token ∷ []
parts ends.Number = is_token ∷ []
parts ends.Character = is_token ∷ []
parts ends.Parenthesis = is_token ∷ is_expression ∷ is_token ∷ []
parts ends.Index = is_token ∷ is_expression ∷ is_token ∷ is_expression ∷ []
parts ends.Member = is_token ∷ is_token ∷ is_expression ∷ []
parts ends.PointerMember = is_token ∷ is_token ∷ is_expression ∷ []
parts (ends.Unary operator) = is_expression ∷ is_token ∷ []
parts ends.SizeofValue = is_expression ∷ is_token ∷ []
parts ends.SizeofType = is_token ∷ is_type_name ∷ is_token ∷ is_token ∷ []
parts ends.Cast = is_expression ∷ is_token ∷ is_type_name ∷ is_token ∷ []
parts (ends.Binary operator) = is_expression ∷ is_token ∷ is_expression ∷ []
parts ends.Conditional = is_expression ∷ is_token ∷ is_expression ∷ is_token ∷ is_expression ∷ []
parts ends.Value = is_expression ∷ []
parts ends.Call = is_arguments ∷ is_token ∷ is_name ∷ []
parts ends.CallValue = is_call ∷ []
parts ends.NoArguments = is_token ∷ []
parts ends.LastArgument = is_token ∷ is_expression ∷ []
parts ends.MoreArguments = is_arguments ∷ is_token ∷ is_expression ∷ []
parts ends.TypeName = is_stars ∷ is_words ∷ []
parts ends.NoWords = []
parts ends.MoreWords = is_words ∷ is_word ∷ []
parts ends.Reserved = is_token ∷ []
parts ends.Named = is_token ∷ []
parts ends.StructTag = is_token ∷ is_token ∷ []
parts ends.StructBody = is_members ∷ is_token ∷ is_token ∷ []
parts ends.TaggedStruct = is_members ∷ is_token ∷ is_token ∷ is_token ∷ []
parts ends.EnumTag = is_token ∷ is_token ∷ []
parts ends.EnumBody = is_enumerators ∷ is_token ∷ is_token ∷ []
parts ends.TaggedEnum = is_enumerators ∷ is_token ∷ is_token ∷ is_token ∷ []
parts ends.LastMember = is_token ∷ is_declarators ∷ is_words ∷ []
parts ends.MoreMembers = is_members ∷ is_declarators ∷ is_words ∷ []
parts ends.LastDeclarator = is_token ∷ is_declarator ∷ []
parts ends.MoreDeclarators = is_declarators ∷ is_token ∷ is_declarator ∷ []
parts ends.NoStars = []
parts ends.MoreStars = is_stars ∷ is_token ∷ []
parts ends.StarConst = is_token ∷ []
parts ends.Declarator = is_dimensions ∷ is_token ∷ is_stars ∷ []
parts ends.NoDimensions = []
parts ends.MoreDimensions = is_dimensions ∷ is_token ∷ is_expression ∷ is_token ∷ []
parts ends.Implicit = is_token ∷ []
parts ends.Explicit = is_expression ∷ is_token ∷ is_token ∷ []
parts ends.LastEnumerator = is_token ∷ is_enumerator ∷ []
parts ends.LastEnumeratorComma = is_token ∷ is_token ∷ is_enumerator ∷ []
parts ends.MoreEnumerators = is_enumerators ∷ is_token ∷ is_enumerator ∷ []
parts ends.Empty = is_token ∷ []
parts ends.Block = is_token ∷ is_items ∷ is_token ∷ []
parts ends.Break = is_token ∷ is_token ∷ []
parts ends.Continue = is_token ∷ is_token ∷ []
parts ends.Return = is_token ∷ is_token ∷ []
parts ends.ReturnValue = is_token ∷ is_right ∷ is_token ∷ []
parts ends.If = is_statement ∷ is_token ∷ is_expression ∷ is_token ∷ is_token ∷ []
parts ends.IfElse = is_statement ∷ is_token ∷ is_statement ∷ is_token ∷ is_expression ∷ is_token ∷ is_token ∷ []
parts ends.While = is_statement ∷ is_token ∷ is_expression ∷ is_token ∷ is_token ∷ []
parts ends.Do = is_token ∷ is_token ∷ is_expression ∷ is_token ∷ is_token ∷ is_statement ∷ is_token ∷ []
parts ends.For = is_statement ∷ is_step ∷ is_test ∷ is_start ∷ is_token ∷ is_token ∷ []
parts ends.Switch = is_token ∷ is_groups ∷ is_token ∷ is_token ∷ is_expression ∷ is_token ∷ is_token ∷ []
parts ends.Simple = is_token ∷ is_simple ∷ []
parts ends.Assign = is_right ∷ is_token ∷ is_expression ∷ []
parts (ends.Update operator) = is_expression ∷ is_token ∷ is_expression ∷ []
parts (ends.After operator) = is_token ∷ is_expression ∷ []
parts (ends.Before operator) = is_expression ∷ is_token ∷ []
parts ends.Invoke = is_call ∷ []
parts ends.NoItems = []
parts ends.LocalItem = is_items ∷ is_local ∷ []
parts ends.StatementItem = is_items ∷ is_statement ∷ []
parts ends.Local = is_inits ∷ is_words ∷ []
parts ends.Init = is_right ∷ is_token ∷ []
parts ends.NoInit = []
parts ends.LastInit = is_token ∷ is_initial ∷ is_declarator ∷ []
parts ends.MoreInits = is_inits ∷ is_token ∷ is_initial ∷ is_declarator ∷ []
parts ends.NoStart = is_token ∷ []
parts ends.StartLocal = is_local ∷ []
parts ends.StartSimple = is_token ∷ is_simple ∷ []
parts ends.NoTest = is_token ∷ []
parts ends.Test = is_token ∷ is_expression ∷ []
parts ends.NoStep = is_token ∷ []
parts ends.Step = is_token ∷ is_simple ∷ []
parts ends.NoGroups = []
parts ends.MoreGroups = is_groups ∷ is_items ∷ is_statement ∷ is_labels ∷ is_label ∷ []
parts ends.Case = is_token ∷ is_expression ∷ is_token ∷ []
parts ends.Default = is_token ∷ is_token ∷ []
parts ends.NoLabels = []
parts ends.MoreLabels = is_labels ∷ is_label ∷ []
parts ends.Function = is_token ∷ is_items ∷ is_token ∷ has_parameters ∷ is_declarator ∷ is_words ∷ []
parts (ends.Declaration true) = is_tops ∷ is_words ∷ is_token ∷ []
parts (ends.Declaration false) = is_tops ∷ is_words ∷ []
parts ends.NoTops = is_token ∷ []
parts ends.LastTop = is_token ∷ is_top ∷ []
parts ends.MoreTops = is_tops ∷ is_token ∷ is_top ∷ []
parts ends.Top = is_test ∷ is_parameters ∷ is_declarator ∷ []
parts ends.NoParameters = []
parts ends.SomeParameters = is_parameter_list ∷ is_token ∷ []
parts ends.NoValue = []
parts ends.SomeValue = is_expression ∷ is_token ∷ []
parts ends.EmptyParameters = is_token ∷ []
parts ends.LastParameter = is_token ∷ is_parameter ∷ []
parts ends.MoreParameters = is_parameter_list ∷ is_token ∷ is_parameter ∷ []
parts ends.Parameter = is_bracket ∷ is_parameter_name ∷ is_stars ∷ is_words ∷ []
parts ends.ParameterName = is_token ∷ []
parts ends.NoParameterName = []
parts ends.NoBracket = []
parts ends.OpenBracket = is_token ∷ is_token ∷ []
parts ends.SizedBracket = is_token ∷ is_expression ∷ is_token ∷ []
parts ends.NoExternals = []
parts ends.MoreExternals = is_text ∷ is_external ∷ []
