-- What a text spells is read as its tree, so no text has two trees.
use Rattle.std.proofs.Common.{ℕ, ◌≡◌, Bool, true, false, List, [], ◌∷◌, ◌++◌, Some, None, nat_le, ◌&&◌, not, refl, sym, ◌∙◌}
use Rattle.c_lex.specs.declared.token.Keyword.TheVariants as word
use Rattle.c_lex.specs.declared.token.Punct.TheVariants as sign
use Rattle.c_lex.specs.Lexeme.{Lexeme, Kind, name, keyword, punct}
use Rattle.c_grammar.specs.declared.symbol.Seen.TheVariants as seen
use Rattle.c_grammar.specs.declared.symbol.Wanted.TheVariants as wanted
use Rattle.c_grammar.specs.declared.symbol.Production.TheVariants as ends
use Rattle.c_grammar.specs.declared.symbol.Symbol.{Symbol}
use Rattle.c_grammar.specs.declared.symbol.Symbol.TheVariants as symbol
use Rattle.c_grammar.specs.Tree as tree
use Rattle.c_grammar.specs.Tree.{Name, Words, Declarator, Bracket, Param, Top, External}
use Rattle.c_grammar.specs.Operators.{is_made}
use Rattle.c_grammar.specs.Spells as spells
use Rattle.c_grammar.specs.Spells.{named, mark, declared, name_of, names_of, names_after, parameters, SpellsDeclarator, SpellsBracket, SpellsParam, SpellsParams, SpellsParameters, SpellsTop, SpellsTops, SpellsDeclared, SpellsExternal, SpellsUnit, Spells}
use Rattle.c_grammar.specs.CodeChoice as choice
use Rattle.c_grammar.specs.CodeChoice.{Pass, choice_of, starts_type, operand, expression, end, words, and_then, bracket_rest, parameter_rest, parameter_name, parameter_bracket, top_parameters, top_value, first_top, externals}
use Rattle.c_grammar.specs.CodeBuild.{Value, Tok, OfWords, OfStars, OfDeclarator, OfBracket, OfParamName, OfParam, OfParams, OfParameters, OfTest, OfTop, OfTops, OfExternal, OfUnit, act}
use Rattle.c_grammar.specs.CodeStack.{go, read, finish, is_type, made_behind, next_behind}
use Rattle.c_grammar.proofs.Steps.{passes, takes, ended_by, expands, rank, needs, starts, false≢true, le_zero, le_trans, needs_kind, is_brace, is_star, tail_nothing, operand_takes, first_words_take, words_start, ends_words, ends_stars, ends_dimensions, is_bracket, stars_end, declarator_ends, passes_stars}
use Rattle.c_grammar.proofs.Reading.{reads, reads_words, reads_stars, reads_dimensions}
use Rattle.c_grammar.proofs.Statements.{begins_value, value_first, value_begins, reads_items}

-- The brackets of a parameter.

rest_value : (y : Bool) (k : Kind) → begins_value k ≡ true → bracket_rest y k ≡ and_then (operand false (wanted.Level 0) y k) (symbol.RightBracket ∷ end ends.SizedBracket ∷ [])
rest_value y (punct sign.RightBracket) h = false≢true h
rest_value y k h = refl

opens_bracket : (ns next : List Name) (K : List Symbol) (vs : List Value) (s : List Lexeme) → value_first s ≡ true → go ns next (symbol.BracketRest ∷ K) vs s ≡ go ns next (expression false 0 ∷ symbol.RightBracket ∷ end ends.SizedBracket ∷ K) vs s
unfolding choice_of
opens_bracket ns next K vs [] h = false≢true h
opens_bracket ns next K vs (x ∷ t) h = expands ns next symbol.BracketRest (expression false 0) (symbol.RightBracket ∷ end ends.SizedBracket ∷ []) K vs x t (operand false (wanted.Level 0) (is_type ns x.kind) x.kind) (rest_value (is_type ns x.kind) x.kind h) refl (operand_takes false (wanted.Level 0) (is_type ns x.kind) x.kind) refl

-- what may follow a parameter: `,` or `)`
abbrev is_parameter_end : Kind → Bool
is_parameter_end (punct sign.Comma) = true
is_parameter_end (punct sign.RightParenthesis) = true
is_parameter_end k = false

abbrev ends_parameter : List Lexeme → Bool
ends_parameter [] = false
ends_parameter (x ∷ t) = is_parameter_end x.kind

bracket_pass : (k : Kind) → is_parameter_end k ≡ true → parameter_bracket k ≡ Pass (ends.NoBracket ∷ [])
bracket_pass (punct sign.LeftBracket) h = false≢true h
bracket_pass k h = refl

passes_bracket : (ns next : List Name) (K : List Symbol) (vs : List Value) (t : List Lexeme) → ends_parameter t ≡ true → go ns next (symbol.ParameterBracket ∷ K) vs t ≡ go ns next K (OfBracket tree.NoBracket ∷ vs) t
unfolding choice_of act
passes_bracket ns next K vs [] h = false≢true h
passes_bracket ns next K vs (x ∷ t) h = passes ns next symbol.ParameterBracket K vs (OfBracket tree.NoBracket ∷ vs) x t (ends.NoBracket ∷ []) (bracket_pass x.kind h) refl

reads_bracket : {ns : List Name} {br : Bracket} {s t : List Lexeme} → SpellsBracket ns br s t → (next : List Name) (K : List Symbol) (vs : List Value) → ends_parameter t ≡ true → go ns next (symbol.ParameterBracket ∷ K) vs s ≡ go ns next K (OfBracket br ∷ vs) t
unfolding choice_of act
reads_bracket spells.no_bracket next K vs h = passes_bracket _ _ _ _ _ h
reads_bracket spells.open_bracket next K vs h = takes _ _ _ _ _ _ _ _ _ _ refl refl ∙ takes _ _ _ _ _ _ _ _ _ _ refl refl ∙ ended_by _ _ _ _ _ _ _ refl
reads_bracket (spells.sized_bracket {e = e} d) next K vs h = takes _ _ _ _ _ _ _ _ _ _ refl refl ∙ opens_bracket _ _ _ _ _ (value_begins d) ∙ reads d _ (wanted.Level 0) _ _ refl (le_zero (rank e)) ∙ tail_nothing _ _ _ _ _ _ _ _ refl ∙ takes _ _ _ _ _ _ _ _ _ _ refl refl ∙ ended_by _ _ _ _ _ _ _ refl

-- Parameters.

-- what may follow the words and stars of a parameter without a name
abbrev is_unnamed_end : Kind → Bool
is_unnamed_end (punct sign.LeftBracket) = true
is_unnamed_end k = is_parameter_end k

abbrev ends_unnamed : List Lexeme → Bool
ends_unnamed [] = false
ends_unnamed (x ∷ t) = is_unnamed_end x.kind

parameter_unnamed : (k : Kind) → is_parameter_end k ≡ true → is_unnamed_end k ≡ true
parameter_unnamed (punct sign.LeftBracket) h = refl
parameter_unnamed k h = h

bracket_begins : {ns : List Name} {br : Bracket} {s t : List Lexeme} → SpellsBracket ns br s t → ends_parameter t ≡ true → ends_unnamed s ≡ true
bracket_begins {t = t} spells.no_bracket h = unnamed_first t h
  where
    unnamed_first : (t : List Lexeme) → ends_parameter t ≡ true → ends_unnamed t ≡ true
    unnamed_first [] h = false≢true h
    unnamed_first (x ∷ t) h = parameter_unnamed x.kind h
bracket_begins spells.open_bracket h = refl
bracket_begins (spells.sized_bracket d) h = refl

unnamed_words : (ns : List Name) (t : List Lexeme) → ends_unnamed t ≡ true → ends_words ns t ≡ true
unnamed_words ns [] h = false≢true h
unnamed_words ns (x ∷ t) h = unnamed_word (is_type ns x.kind) x.kind h
  where
    unnamed_word : (y : Bool) (k : Kind) → is_unnamed_end k ≡ true → (not (starts_type y k) && not (is_brace k)) ≡ true
    unnamed_word y (punct sign.LeftBracket) h = refl
    unnamed_word y (punct sign.Comma) h = refl
    unnamed_word y (punct sign.RightParenthesis) h = refl
    unnamed_word y k h = false≢true h

unnamed_stars : (t : List Lexeme) → ends_unnamed t ≡ true → ends_stars t ≡ true
unnamed_stars [] h = false≢true h
unnamed_stars (x ∷ t) h = unnamed_star x.kind h
  where
    unnamed_star : (k : Kind) → is_unnamed_end k ≡ true → not (is_star k) ≡ true
    unnamed_star (punct sign.LeftBracket) h = refl
    unnamed_star (punct sign.Comma) h = refl
    unnamed_star (punct sign.RightParenthesis) h = refl
    unnamed_star k h = false≢true h

name_pass : (y : Bool) (k : Kind) → is_unnamed_end k ≡ true → parameter_name y k ≡ Pass (ends.NoParameterName ∷ [])
name_pass y (name n) h = false≢true h
name_pass y k h = refl

passes_name : (ns next : List Name) (K : List Symbol) (vs : List Value) (t : List Lexeme) → ends_unnamed t ≡ true → go ns next (symbol.ParameterName ∷ K) vs t ≡ go ns next K (OfParamName None ∷ vs) t
unfolding choice_of act
passes_name ns next K vs [] h = false≢true h
passes_name ns next K vs (x ∷ t) h = passes ns next symbol.ParameterName K vs (OfParamName None ∷ vs) x t (ends.NoParameterName ∷ []) (name_pass (is_type ns x.kind) x.kind h) refl

takes_name : (ns next : List Name) (n : Name) (a z : ℕ) (K : List Symbol) (vs : List Value) (t : List Lexeme) → is_made ns n ≡ false → go ns next (symbol.ParameterName ∷ K) vs (named n a z ∷ t) ≡ go ns next K (OfParamName (Some (a, n)) ∷ vs) t
unfolding choice_of act go
takes_name ns next n a z K vs t h = takes ns next symbol.ParameterName K vs vs (named n a z) t [] (end ends.ParameterName ∷ []) (rw h refl) refl

reads_param : {ns : List Name} {pa : Param} {s t : List Lexeme} → SpellsParam ns pa s t → (next : List Name) (K : List Symbol) (vs : List Value) → ends_parameter t ≡ true → go ns next (symbol.Words false seen.Nothing ∷ symbol.Stars false ∷ symbol.ParameterName ∷ symbol.ParameterBracket ∷ end ends.Parameter ∷ K) vs s ≡ go ns next K (OfParam pa ∷ vs) t
unfolding choice_of act
reads_param {ns = ns} (spells.unnamed {u = u} d f g) next K vs h = reads_words d _ _ _ (stars_end ns f refl (unnamed_words ns u (bracket_begins g h))) ∙ reads_stars f _ _ _ _ (unnamed_stars u (bracket_begins g h)) ∙ passes_name _ _ _ _ _ (bracket_begins g h) ∙ reads_bracket g _ _ _ h ∙ ended_by _ _ _ _ _ _ _ refl
reads_param {ns = ns} (spells.parameter d f j g) next K vs h = reads_words d _ _ _ (stars_end ns f refl (rw j refl)) ∙ reads_stars f _ _ _ _ refl ∙ takes_name _ _ _ _ _ _ _ _ j ∙ reads_bracket g _ _ _ h ∙ ended_by _ _ _ _ _ _ _ refl

reads_params : {ns : List Name} {pas : List Param} {s t : List Lexeme} → SpellsParams ns pas s t → (next : List Name) (K : List Symbol) (vs : List Value) → go ns next (symbol.Words false seen.Nothing ∷ parameter_rest K) vs s ≡ go ns next K (OfParams pas ∷ vs) t
unfolding choice_of act
reads_params (spells.last_parameter d) next K vs = reads_param d _ _ _ refl ∙ takes _ _ _ _ _ _ _ _ _ _ refl refl ∙ ended_by _ _ _ _ _ _ _ refl
reads_params (spells.more_parameters d f) next K vs = reads_param d _ _ _ refl ∙ takes _ _ _ _ _ _ _ _ _ _ refl refl ∙ reads_params f _ _ _ ∙ ended_by _ _ _ _ _ _ _ refl

params_start : {ns : List Name} {pas : List Param} {s t : List Lexeme} → SpellsParams ns pas s t → starts ns s ≡ true
params_start (spells.last_parameter (spells.unnamed d f g)) = words_start d refl
params_start (spells.last_parameter (spells.parameter d f j g)) = words_start d refl
params_start (spells.more_parameters (spells.unnamed d f g) i) = words_start d refl
params_start (spells.more_parameters (spells.parameter d f j g) i) = words_start d refl

parameters_type : (y : Bool) (k : Kind) → starts_type y k ≡ true → choice.parameters y k ≡ and_then (words false seen.Nothing y k) (parameter_rest [])
parameters_type y (punct sign.RightParenthesis) h = false≢true h
parameters_type y k h = refl

opens_parameters : (ns next : List Name) (K : List Symbol) (vs : List Value) (s : List Lexeme) → starts ns s ≡ true → go ns next (symbol.Parameters ∷ K) vs s ≡ go ns next (symbol.Words false seen.Nothing ∷ parameter_rest K) vs s
unfolding choice_of
opens_parameters ns next K vs [] h = false≢true h
opens_parameters ns next K vs (x ∷ t) h = expands ns next symbol.Parameters (symbol.Words false seen.Nothing) (parameter_rest []) K vs x t (words false seen.Nothing (is_type ns x.kind) x.kind) (parameters_type (is_type ns x.kind) x.kind h) refl (first_words_take false (is_type ns x.kind) x.kind) refl

reads_top_parameters : {ns : List Name} {pas : List Param} {s t : List Lexeme} → SpellsParameters ns pas s t → (next : List Name) (K : List Symbol) (vs : List Value) → go ns next (symbol.TopParameters ∷ K) vs s ≡ go ns next K (OfParameters (Some pas) ∷ vs) t
unfolding choice_of act
reads_top_parameters spells.no_parameters next K vs = takes _ _ _ _ _ _ _ _ _ _ refl refl ∙ takes _ _ _ _ _ _ _ _ _ _ refl refl ∙ ended_by _ _ _ _ _ _ _ refl ∙ ended_by _ _ _ _ _ _ _ refl
reads_top_parameters (spells.some_parameters d) next K vs = takes _ _ _ _ _ _ _ _ _ _ refl refl ∙ opens_parameters _ _ _ _ _ (params_start d) ∙ reads_params d _ _ _ ∙ ended_by _ _ _ _ _ _ _ refl

reads_first_parameters : {ns : List Name} {pas : List Param} {s t : List Lexeme} → SpellsParameters ns pas s t → (next : List Name) (K : List Symbol) (vs : List Value) → go ns next (symbol.FirstParameters ∷ K) vs s ≡ go ns next (symbol.FirstRest ∷ K) (OfParameters (Some pas) ∷ vs) t
unfolding choice_of act
reads_first_parameters spells.no_parameters next K vs = takes _ _ _ _ _ _ _ _ _ _ refl refl ∙ takes _ _ _ _ _ _ _ _ _ _ refl refl ∙ ended_by _ _ _ _ _ _ _ refl ∙ ended_by _ _ _ _ _ _ _ refl
reads_first_parameters (spells.some_parameters d) next K vs = takes _ _ _ _ _ _ _ _ _ _ refl refl ∙ opens_parameters _ _ _ _ _ (params_start d) ∙ reads_params d _ _ _ ∙ ended_by _ _ _ _ _ _ _ refl

parameters_dimensions : {ns : List Name} {pas : List Param} {s t : List Lexeme} → SpellsParameters ns pas s t → ends_dimensions s ≡ true
parameters_dimensions spells.no_parameters = refl
parameters_dimensions (spells.some_parameters d) = refl

-- Declarators outside functions.

-- what follows such a declarator's brackets
abbrev new_declarator : List Symbol → List Symbol
new_declarator K = symbol.Stars false ∷ symbol.NewName ∷ symbol.Dimensions true ∷ end ends.Declarator ∷ K

takes_new_name : (ns next : List Name) (n : Name) (a z : ℕ) (K : List Symbol) (vs : List Value) (t : List Lexeme) → is_made ns n ≡ false → go ns next (symbol.NewName ∷ K) vs (named n a z ∷ t) ≡ go ns (n ∷ next) K (Tok (named n a z) ∷ vs) t
unfolding choice_of
takes_new_name ns next n a z K vs t h = takes ns next symbol.NewName K vs vs (named n a z) t [] [] (rw h refl) refl

reads_new : {ns : List Name} {d : Declarator} {s t : List Lexeme} → SpellsDeclarator ns true d s t → (next : List Name) (K : List Symbol) (vs : List Value) → ends_dimensions t ≡ true → go ns next (new_declarator K) vs s ≡ go ns (declared d ∷ next) K (OfDeclarator d ∷ vs) t
unfolding choice_of act
reads_new (spells.declare d h f) next K vs e = reads_stars d _ _ _ _ refl ∙ takes_new_name _ _ _ _ _ _ _ _ h ∙ reads_dimensions f _ _ _ e ∙ ended_by _ _ _ _ _ _ _ refl

-- what may follow a declarator with its parameters and value: `,` or `;`
abbrev is_top_end : Kind → Bool
is_top_end (punct sign.Comma) = true
is_top_end (punct sign.Semicolon) = true
is_top_end k = false

abbrev ends_top : List Lexeme → Bool
ends_top [] = false
ends_top (x ∷ t) = is_top_end x.kind

top_dimensions : (t : List Lexeme) → ends_top t ≡ true → ends_dimensions t ≡ true
top_dimensions [] h = false≢true h
top_dimensions (x ∷ t) h = top_dimension x.kind h
  where
    top_dimension : (k : Kind) → is_top_end k ≡ true → not (is_bracket k) ≡ true
    top_dimension (punct sign.LeftBracket) h = false≢true h
    top_dimension k h = refl

top_needs : (t : List Lexeme) → ends_top t ≡ true → nat_le (needs t) 0 ≡ true
top_needs [] h = false≢true h
top_needs (x ∷ t) h = top_need x.kind h
  where
    top_need : (k : Kind) → is_top_end k ≡ true → nat_le (needs_kind k) 0 ≡ true
    top_need (punct sign.Comma) h = refl
    top_need (punct sign.Semicolon) h = refl
    top_need k h = false≢true h

value_pass : (k : Kind) → is_top_end k ≡ true → top_value k ≡ Pass (ends.NoValue ∷ [])
value_pass (punct sign.Equal) h = false≢true h
value_pass k h = refl

parameters_pass : (k : Kind) → is_top_end k ≡ true → top_parameters k ≡ Pass (ends.NoParameters ∷ [])
parameters_pass (punct sign.LeftParenthesis) h = false≢true h
parameters_pass k h = refl

passes_value : (ns next : List Name) (K : List Symbol) (vs : List Value) (t : List Lexeme) → ends_top t ≡ true → go ns next (symbol.TopValue ∷ K) vs t ≡ go ns next K (OfTest None ∷ vs) t
unfolding choice_of act
passes_value ns next K vs [] h = false≢true h
passes_value ns next K vs (x ∷ t) h = passes ns next symbol.TopValue K vs (OfTest None ∷ vs) x t (ends.NoValue ∷ []) (value_pass x.kind h) refl

passes_parameters : (ns next : List Name) (K : List Symbol) (vs : List Value) (t : List Lexeme) → ends_top t ≡ true → go ns next (symbol.TopParameters ∷ K) vs t ≡ go ns next K (OfParameters None ∷ vs) t
unfolding choice_of act
passes_parameters ns next K vs [] h = false≢true h
passes_parameters ns next K vs (x ∷ t) h = passes ns next symbol.TopParameters K vs (OfParameters None ∷ vs) x t (ends.NoParameters ∷ []) (parameters_pass x.kind h) refl

reads_top : {ns : List Name} {top : Top} {s t : List Lexeme} → SpellsTop ns top s t → (next : List Name) (K : List Symbol) (vs : List Value) → ends_top t ≡ true → go ns next (new_declarator (symbol.TopParameters ∷ symbol.TopValue ∷ end ends.Top ∷ K)) vs s ≡ go ns (name_of top ∷ next) K (OfTop top ∷ vs) t
unfolding choice_of act
reads_top {t = t} (spells.object d) next K vs h = reads_new d _ _ _ (top_dimensions t h) ∙ passes_parameters _ _ _ _ _ h ∙ passes_value _ _ _ _ _ h ∙ ended_by _ _ _ _ _ _ _ refl
reads_top {t = t} (spells.object_value {e = e} d f) next K vs h = reads_new d _ _ _ refl ∙ passes _ _ _ _ _ _ _ _ _ refl refl ∙ takes _ _ _ _ _ _ _ _ _ _ refl refl ∙ reads f _ (wanted.Level 0) _ _ refl (le_trans (needs t) 0 (rank e) (top_needs t h) (le_zero (rank e))) ∙ tail_nothing _ _ _ _ _ _ _ _ (top_needs t h) ∙ ended_by _ _ _ _ _ _ _ refl ∙ ended_by _ _ _ _ _ _ _ refl
reads_top (spells.prototype d f) next K vs h = reads_new d _ _ _ (parameters_dimensions f) ∙ reads_top_parameters f _ _ _ ∙ passes_value _ _ _ _ _ h ∙ ended_by _ _ _ _ _ _ _ refl
reads_top {t = t} (spells.prototype_value {e = e} d f g) next K vs h = reads_new d _ _ _ (parameters_dimensions f) ∙ reads_top_parameters f _ _ _ ∙ takes _ _ _ _ _ _ _ _ _ _ refl refl ∙ reads g _ (wanted.Level 0) _ _ refl (le_trans (needs t) 0 (rank e) (top_needs t h) (le_zero (rank e))) ∙ tail_nothing _ _ _ _ _ _ _ _ (top_needs t h) ∙ ended_by _ _ _ _ _ _ _ refl ∙ ended_by _ _ _ _ _ _ _ refl

reads_tops : {ns : List Name} {tops : List Top} {s t : List Lexeme} → SpellsTops ns tops s t → (next : List Name) (K : List Symbol) (vs : List Value) → go ns next (new_declarator (symbol.TopParameters ∷ symbol.TopValue ∷ end ends.Top ∷ symbol.TopMore ∷ K)) vs s ≡ go ns (names_of tops next) K (OfTops tops ∷ vs) t
unfolding choice_of act
reads_tops (spells.last_top d) next K vs = reads_top d _ _ _ refl ∙ takes _ _ _ _ _ _ _ _ _ _ refl refl ∙ ended_by _ _ _ _ _ _ _ refl
reads_tops (spells.more_tops d f) next K vs = reads_top d _ _ _ refl ∙ takes _ _ _ _ _ _ _ _ _ _ refl refl ∙ reads_tops f _ _ _ ∙ ended_by _ _ _ _ _ _ _ refl

-- the first declarator of an external
takes_first : (ns next : List Name) (f : Bool) (n : Name) (a z : ℕ) (K : List Symbol) (vs : List Value) (t : List Lexeme) → is_made ns n ≡ false → go ns next (symbol.Tops f ∷ K) vs (named n a z ∷ t) ≡ go ns (n ∷ next) (symbol.Dimensions true ∷ end ends.Declarator ∷ (first_top f ++ K)) (Tok (named n a z) ∷ OfStars [] ∷ vs) t
unfolding choice_of act
takes_first ns next f n a z K vs t h = takes ns next (symbol.Tops f) K vs (OfStars [] ∷ vs) (named n a z) t (ends.NoStars ∷ []) (symbol.Dimensions true ∷ end ends.Declarator ∷ first_top f) (rw h refl) refl

opens_first : {ns : List Name} {d : Declarator} {s t : List Lexeme} → SpellsDeclarator ns true d s t → (next : List Name) (f : Bool) (K : List Symbol) (vs : List Value) → go ns next (symbol.Tops f ∷ K) vs s ≡ go ns next (new_declarator (first_top f ++ K)) vs s
unfolding choice_of act
opens_first {ns = ns} (spells.declare spells.no_stars h j) next f K vs = takes_first _ _ _ _ _ _ _ _ _ h ∙ sym (passes_stars ns next false (symbol.NewName ∷ symbol.Dimensions true ∷ end ends.Declarator ∷ (first_top f ++ K)) vs _ refl ∙ takes_new_name ns next _ _ _ (symbol.Dimensions true ∷ end ends.Declarator ∷ (first_top f ++ K)) (OfStars [] ∷ vs) _ h)
opens_first {ns = ns} (spells.declare (spells.star {s = s} {a = a} {z = z} d) h j) next f K vs = takes ns next (symbol.Tops f) K vs vs (mark sign.Star a z) s [] (symbol.Stars true ∷ end ends.MoreStars ∷ symbol.NewName ∷ symbol.Dimensions true ∷ end ends.Declarator ∷ first_top f) refl refl ∙ sym (takes ns next (symbol.Stars false) (symbol.NewName ∷ symbol.Dimensions true ∷ end ends.Declarator ∷ (first_top f ++ K)) vs vs (mark sign.Star a z) s [] (symbol.Stars true ∷ end ends.MoreStars ∷ []) refl refl)

top_first : {ns : List Name} {top : Top} {s t : List Lexeme} → SpellsTop ns top s t → (next : List Name) (f : Bool) (K : List Symbol) (vs : List Value) → go ns next (symbol.Tops f ∷ K) vs s ≡ go ns next (new_declarator (first_top f ++ K)) vs s
top_first (spells.object d) = opens_first d
top_first (spells.object_value d f) = opens_first d
top_first (spells.prototype d f) = opens_first d
top_first (spells.prototype_value d f g) = opens_first d

tops_first : {ns : List Name} {tops : List Top} {s t : List Lexeme} → SpellsTops ns tops s t → (next : List Name) (f : Bool) (K : List Symbol) (vs : List Value) → go ns next (symbol.Tops f ∷ K) vs s ≡ go ns next (new_declarator (first_top f ++ K)) vs s
tops_first (spells.last_top d) = top_first d
tops_first (spells.more_tops d f) = top_first d

top_words : {ns : List Name} {top : Top} {s t : List Lexeme} → SpellsTop ns top s t → ends_words ns s ≡ true
top_words (spells.object d) = declarator_ends d
top_words (spells.object_value d f) = declarator_ends d
top_words (spells.prototype d f) = declarator_ends d
top_words (spells.prototype_value d f g) = declarator_ends d

declared_words : {ns : List Name} {tops : List Top} {s t : List Lexeme} → SpellsDeclared ns tops s t → ends_words ns s ≡ true
declared_words spells.no_tops = refl
declared_words (spells.some_tops (spells.last_top d)) = top_words d
declared_words (spells.some_tops (spells.more_tops d f)) = top_words d

reads_first : {ns : List Name} {tops : List Top} {s t : List Lexeme} → SpellsTops ns tops s t → (next : List Name) (ws : Words) (K : List Symbol) (vs : List Value) → go ns next (new_declarator (symbol.FirstParameters ∷ K)) (OfWords ws ∷ vs) s ≡ go ns (names_of tops next) K (OfExternal (tree.Declaration None ws tops) ∷ vs) t
unfolding choice_of act
reads_first (spells.last_top (spells.object d)) next ws K vs = reads_new d _ _ _ refl ∙ takes _ _ _ _ _ _ _ _ _ _ refl refl ∙ ended_by _ _ _ _ _ _ _ refl ∙ ended_by _ _ _ _ _ _ _ refl
reads_first (spells.last_top (spells.object_value {e = e} d f)) next ws K vs = reads_new d _ _ _ refl ∙ takes _ _ _ _ _ _ _ _ _ _ refl refl ∙ reads f _ (wanted.Level 0) _ _ refl (le_zero (rank e)) ∙ tail_nothing _ _ _ _ _ _ _ _ refl ∙ ended_by _ _ _ _ _ _ _ refl ∙ ended_by _ _ _ _ _ _ _ refl ∙ takes _ _ _ _ _ _ _ _ _ _ refl refl ∙ ended_by _ _ _ _ _ _ _ refl ∙ ended_by _ _ _ _ _ _ _ refl
reads_first (spells.last_top (spells.prototype d f)) next ws K vs = reads_new d _ _ _ (parameters_dimensions f) ∙ reads_first_parameters f _ _ _ ∙ takes _ _ _ _ _ _ _ _ _ _ refl refl ∙ ended_by _ _ _ _ _ _ _ refl ∙ ended_by _ _ _ _ _ _ _ refl
reads_first (spells.last_top (spells.prototype_value {e = e} d f g)) next ws K vs = reads_new d _ _ _ (parameters_dimensions f) ∙ reads_first_parameters f _ _ _ ∙ takes _ _ _ _ _ _ _ _ _ _ refl refl ∙ reads g _ (wanted.Level 0) _ _ refl (le_zero (rank e)) ∙ tail_nothing _ _ _ _ _ _ _ _ refl ∙ ended_by _ _ _ _ _ _ _ refl ∙ ended_by _ _ _ _ _ _ _ refl ∙ takes _ _ _ _ _ _ _ _ _ _ refl refl ∙ ended_by _ _ _ _ _ _ _ refl ∙ ended_by _ _ _ _ _ _ _ refl
reads_first (spells.more_tops (spells.object d) i) next ws K vs = reads_new d _ _ _ refl ∙ takes _ _ _ _ _ _ _ _ _ _ refl refl ∙ reads_tops i _ _ _ ∙ ended_by _ _ _ _ _ _ _ refl ∙ ended_by _ _ _ _ _ _ _ refl
reads_first (spells.more_tops (spells.object_value {e = e} d f) i) next ws K vs = reads_new d _ _ _ refl ∙ takes _ _ _ _ _ _ _ _ _ _ refl refl ∙ reads f _ (wanted.Level 0) _ _ refl (le_zero (rank e)) ∙ tail_nothing _ _ _ _ _ _ _ _ refl ∙ ended_by _ _ _ _ _ _ _ refl ∙ ended_by _ _ _ _ _ _ _ refl ∙ takes _ _ _ _ _ _ _ _ _ _ refl refl ∙ reads_tops i _ _ _ ∙ ended_by _ _ _ _ _ _ _ refl ∙ ended_by _ _ _ _ _ _ _ refl
reads_first (spells.more_tops (spells.prototype d f) i) next ws K vs = reads_new d _ _ _ (parameters_dimensions f) ∙ reads_first_parameters f _ _ _ ∙ takes _ _ _ _ _ _ _ _ _ _ refl refl ∙ reads_tops i _ _ _ ∙ ended_by _ _ _ _ _ _ _ refl ∙ ended_by _ _ _ _ _ _ _ refl
reads_first (spells.more_tops (spells.prototype_value {e = e} d f g) i) next ws K vs = reads_new d _ _ _ (parameters_dimensions f) ∙ reads_first_parameters f _ _ _ ∙ takes _ _ _ _ _ _ _ _ _ _ refl refl ∙ reads g _ (wanted.Level 0) _ _ refl (le_zero (rank e)) ∙ tail_nothing _ _ _ _ _ _ _ _ refl ∙ ended_by _ _ _ _ _ _ _ refl ∙ ended_by _ _ _ _ _ _ _ refl ∙ takes _ _ _ _ _ _ _ _ _ _ refl refl ∙ reads_tops i _ _ _ ∙ ended_by _ _ _ _ _ _ _ refl ∙ ended_by _ _ _ _ _ _ _ refl

reads_declared : {ns : List Name} {tops : List Top} {s t : List Lexeme} → SpellsDeclared ns tops s t → (next : List Name) (ws : Words) (K : List Symbol) (vs : List Value) → go ns next (symbol.Tops false ∷ K) (OfWords ws ∷ vs) s ≡ go ns (names_of tops next) K (OfExternal (tree.Declaration None ws tops) ∷ vs) t
unfolding choice_of act
reads_declared spells.no_tops next ws K vs = takes _ _ _ _ _ _ _ _ _ _ refl refl ∙ ended_by _ _ _ _ _ _ _ refl ∙ ended_by _ _ _ _ _ _ _ refl
reads_declared (spells.some_tops d) next ws K vs = tops_first d _ _ _ _ ∙ reads_first d _ _ _ _

reads_typedef : {ns : List Name} {tops : List Top} {s t : List Lexeme} → SpellsDeclared ns tops s t → (next : List Name) (ws : Words) (x : Lexeme) (K : List Symbol) (vs : List Value) → go ns next (symbol.Tops true ∷ K) (OfWords ws ∷ Tok x ∷ vs) s ≡ go ns (names_of tops next) K (OfExternal (tree.Declaration (Some x.from) ws tops) ∷ vs) t
unfolding choice_of act
reads_typedef spells.no_tops next ws x K vs = takes _ _ _ _ _ _ _ _ _ _ refl refl ∙ ended_by _ _ _ _ _ _ _ refl ∙ ended_by _ _ _ _ _ _ _ refl
reads_typedef (spells.some_tops d) next ws x K vs = tops_first d _ _ _ _ ∙ reads_tops d _ _ _ ∙ ended_by _ _ _ _ _ _ _ refl

-- Externals.

made : (ns next : List Name) (f : Bool) (K : List Symbol) (vs : List Value) (t : List Lexeme) → go ns next (symbol.Made f ∷ symbol.Externals ∷ K) vs t ≡ go (made_behind (symbol.Made f) ns next) (next_behind (symbol.Made f) ns next) (symbol.Externals ∷ K) vs t
unfolding choice_of go
made ns next f K vs [] = refl
made ns next f K vs (x ∷ t) = passes ns next (symbol.Made f) (symbol.Externals ∷ K) vs vs x t [] refl refl

externals_type : (y : Bool) (k : Kind) → starts_type y k ≡ true → externals y k ≡ and_then (words true seen.Nothing y k) (symbol.Tops false ∷ symbol.Made false ∷ symbol.Externals ∷ end ends.MoreExternals ∷ [])
externals_type y (keyword word.Typedef) h = false≢true h
externals_type y k h = refl

opens_external : (ns next : List Name) (K : List Symbol) (vs : List Value) (s : List Lexeme) → starts ns s ≡ true → go ns next (symbol.Externals ∷ K) vs s ≡ go ns next (symbol.Words true seen.Nothing ∷ symbol.Tops false ∷ symbol.Made false ∷ symbol.Externals ∷ end ends.MoreExternals ∷ K) vs s
unfolding choice_of
opens_external ns next K vs [] h = false≢true h
opens_external ns next K vs (x ∷ t) h = expands ns next symbol.Externals (symbol.Words true seen.Nothing) (symbol.Tops false ∷ symbol.Made false ∷ symbol.Externals ∷ end ends.MoreExternals ∷ []) K vs x t (words true seen.Nothing (is_type ns x.kind) x.kind) (externals_type (is_type ns x.kind) x.kind h) refl (first_words_take true (is_type ns x.kind) x.kind) refl

reads_external : {ns : List Name} {ext : External} {s t : List Lexeme} → SpellsExternal ns ext s t → (K : List Symbol) (vs : List Value) → go ns ns (symbol.Externals ∷ K) vs s ≡ go (names_after ext ns) (names_after ext ns) (symbol.Externals ∷ end ends.MoreExternals ∷ K) (OfExternal ext ∷ vs) t
unfolding choice_of act
reads_external (spells.function d f g i) K vs = opens_external _ _ _ _ _ (words_start d refl) ∙ reads_words d _ _ _ (declarator_ends f) ∙ opens_first f _ _ _ _ ∙ reads_new f _ _ _ (parameters_dimensions g) ∙ reads_first_parameters g _ _ _ ∙ takes _ _ _ _ _ _ _ _ _ _ refl refl ∙ reads_items i _ _ _ refl ∙ takes _ _ _ _ _ _ _ _ _ _ refl refl ∙ ended_by _ _ _ _ _ _ _ refl ∙ made _ _ _ _ _ _
reads_external (spells.declaration d f) K vs = opens_external _ _ _ _ _ (words_start d refl) ∙ reads_words d _ _ _ (declared_words f) ∙ reads_declared f _ _ _ _ ∙ made _ _ _ _ _ _
reads_external (spells.typedef d f) K vs = takes _ _ _ _ _ _ _ _ _ _ refl refl ∙ reads_words d _ _ _ (declared_words f) ∙ reads_typedef f _ _ _ _ _ ∙ made _ _ _ _ _ _

reads_unit : {ns : List Name} {exts : List External} {s : List Lexeme} → SpellsUnit ns exts s → (K : List Symbol) (vs : List Value) → go ns ns (symbol.Externals ∷ K) vs s ≡ finish K (Some (OfUnit exts ∷ vs))
unfolding go act
reads_unit spells.no_externals K vs = refl
reads_unit (spells.more_externals d f) K vs = reads_external d K vs ∙ reads_unit f (end ends.MoreExternals ∷ K) _

-- what a text spells is read
pub is_read : (exts : List External) (s : List Lexeme) → Spells exts s → read s ≡ Some (OfUnit exts ∷ [])
unfolding read
is_read exts s d = reads_unit d [] []

-- no text has two trees
pub one_tree : (u v : List External) (s : List Lexeme) → Spells u s → Spells v s → u ≡ v
one_tree u v s d f = let e = sym (is_read u s d) ∙ is_read v s f in cc
