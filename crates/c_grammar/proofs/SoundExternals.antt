-- The choices of externals, and of tokens that are expected as they are, keep what the stack means.
use Rattle.std.proofs.Common.{ℕ, ◌≡◌, Bool, true, false, List, [], ◌∷◌, Some, None, refl, sym, ap, ◌∙◌, subst}
use Rattle.c_lex.specs.declared.token.Keyword.TheVariants as word
use Rattle.c_lex.specs.declared.token.Punct.TheVariants as sign
use Rattle.c_lex.specs.Lexeme.{Lexeme, Kind, name, keyword, punct}
use Rattle.c_grammar.specs.declared.symbol.Seen.TheVariants as seen
use Rattle.c_grammar.specs.declared.symbol.Wanted.TheVariants as wanted
use Rattle.c_grammar.specs.declared.symbol.Production.TheVariants as ends
use Rattle.c_grammar.specs.declared.symbol.Symbol.TheVariants as symbol
use Rattle.c_grammar.specs.Tree as tree
use Rattle.c_grammar.specs.Tree.{Name, Words, Declarator, Bracket, Param, Top}
use Rattle.c_grammar.specs.Operators.{is_made}
use Rattle.c_grammar.specs.Spells as spells
use Rattle.c_grammar.specs.Spells.{token, named, mark, reserved, declared, name_of, names_of, SpellsStars, SpellsWords, SpellsDeclarator, SpellsBracket, SpellsParam, SpellsTop, SpellsUnit}
use Rattle.c_grammar.specs.CodeChoice as choice
use Rattle.c_grammar.specs.CodeChoice.{Refuse, Pass, Take, take, expression, parameter_rest, next_top, first_top}
use Rattle.c_grammar.specs.CodeStack.{is_type}
use Rattle.c_grammar.proofs.Means.{is_mark, is_word, is_name, same, MayHaveParameters, without_parameters, with_parameters, MayHaveValue, without_value, with_value, MayHaveName, without_name, with_name, Means, plain, new_name, top_more, typedef_tops, first_tops, first_parameters, first_rest, made_true, made_false, externals, All, nil, cons, Sound, then_sound, if_sound}
use Rattle.c_grammar.proofs.SoundExpressions.{words_sound, operand_sound}

-- Declarators outside functions.

pub record TopOf (ns : List Name) (d : Declarator) (s t : List Lexeme) : Type 0 where
  pub top : Top
  pub spelled : SpellsTop ns top s t
  pub named : name_of top ≡ declared d

top_of : {ns : List Name} {s u v w : List Lexeme} (d : Declarator) → SpellsDeclarator ns true d s u → MayHaveParameters ns u v → MayHaveValue ns v w → TopOf ns d s w
top_of d f without_parameters without_value = record { top = tree.Topmost d None None; spelled = spells.object f; named = refl }
top_of d f without_parameters (with_value {e = e} g) = record { top = tree.Topmost d None (Some e); spelled = spells.object_value f g; named = refl }
top_of d f (with_parameters {pas = pas} i) without_value = record { top = tree.Topmost d (Some pas) None; spelled = spells.prototype f i; named = refl }
top_of d f (with_parameters {pas = pas} i) (with_value {e = e} g) = record { top = tree.Topmost d (Some pas) (Some e); spelled = spells.prototype_value f i g; named = refl }

also : (top : Top) (tops : List Top) (n : Name) (next next1 : List Name) → name_of top ≡ n → names_of tops (n ∷ next) ≡ next1 → names_of (top ∷ tops) next ≡ next1
also top tops n next next1 e f = ap (λ v. names_of tops (v ∷ next)) e ∙ f

top_parameters_row : {ns next ns2 next2 : List Name} {s u : List Lexeme} (a z : ℕ) → All ns next (symbol.Parameters ∷ symbol.End ends.SomeParameters ∷ []) s u ns2 next2 → Means ns next symbol.TopParameters (mark sign.LeftParenthesis a z ∷ s) u ns2 next2
top_parameters_row a z (cons (plain m) (cons (plain same) nil)) = let p = m a z in plain (with_parameters p.1)

pub top_parameters_sound : (ns next : List Name) (k : Kind) (a z : ℕ) → Sound ns next symbol.TopParameters (token k a z) (choice.top_parameters k)
top_parameters_sound ns next (punct sign.LeftParenthesis) a z = λ s u ns2 next2 all. top_parameters_row a z all
top_parameters_sound ns next k a z = λ s. plain without_parameters

top_value_row : {ns next ns2 next2 : List Name} {s u : List Lexeme} (a z : ℕ) → All ns next (expression true 0 ∷ symbol.End ends.SomeValue ∷ []) s u ns2 next2 → Means ns next symbol.TopValue (mark sign.Equal a z ∷ s) u ns2 next2
top_value_row a z (cons (plain f) (cons (plain same) nil)) = let p = f refl in plain (with_value p.1)

pub top_value_sound : (ns next : List Name) (k : Kind) (a z : ℕ) → Sound ns next symbol.TopValue (token k a z) (choice.top_value k)
top_value_sound ns next (punct sign.Equal) a z = λ s u ns2 next2 all. top_value_row a z all
top_value_sound ns next k a z = λ s. plain without_value

next_top_row : {ns next ns2 next2 : List Name} {s u : List Lexeme} (a z : ℕ) → All ns next (next_top []) s u ns2 next2 → Means ns next symbol.TopMore (mark sign.Comma a z ∷ s) u ns2 next2
next_top_row a z (cons (plain (ats, g)) (cons (new_name {n = n} {a = a1} h) (cons (plain (dims, f)) (cons (plain same) (cons (plain tp) (cons (plain tv) (cons (plain same) (cons (top_more i) (cons (plain same) nil))))))))) = top_more (λ top0 v d. let t0 = top_of (tree.Declare ats a1 n dims) (spells.declare g h f) tp tv in let q = i t0.top _ t0.spelled in (t0.top ∷ q.0, spells.more_tops d q.1, also t0.top q.0 n _ _ t0.named q.2))
next_top_row a z (cons (plain (ats, g)) (cons (plain x0) _)) = elim x0 [ ]
next_top_row a z (cons (plain (ats, g)) (cons (new_name {n = n} {a = a1} h) (cons (plain (dims, f)) (cons (plain same) (cons (plain tp) (cons (plain tv) (cons (plain same) (cons (plain x0) _)))))))) = elim x0 [ ]

last_top_row : {ns next ns2 next2 : List Name} {s u : List Lexeme} (a z : ℕ) → All ns next (symbol.End ends.LastTop ∷ []) s u ns2 next2 → Means ns next symbol.TopMore (mark sign.Semicolon a z ∷ s) u ns2 next2
last_top_row a z (cons (plain same) nil) = top_more (λ top0 v d. ([], spells.last_top d, refl))

pub top_more_sound : (ns next : List Name) (k : Kind) (a z : ℕ) → Sound ns next symbol.TopMore (token k a z) (choice.top_more k)
top_more_sound ns next (punct sign.Comma) a z = λ s u ns2 next2 all. next_top_row a z all
top_more_sound ns next (punct sign.Semicolon) a z = λ s u ns2 next2 all. last_top_row a z all
top_more_sound ns next k a z = tt

no_typedef_row : {ns next ns2 next2 : List Name} {s u : List Lexeme} (a z : ℕ) → All ns next (symbol.End ends.NoTops ∷ symbol.End (ends.Declaration true) ∷ []) s u ns2 next2 → Means ns next (symbol.Tops true) (mark sign.Semicolon a z ∷ s) u ns2 next2
no_typedef_row a z (cons (plain same) (cons (plain same) nil)) = typedef_tops [] spells.no_tops refl

no_tops_row : {ns next ns2 next2 : List Name} {s u : List Lexeme} (a z : ℕ) → All ns next (symbol.End ends.NoTops ∷ symbol.End (ends.Declaration false) ∷ []) s u ns2 next2 → Means ns next (symbol.Tops false) (mark sign.Semicolon a z ∷ s) u ns2 next2
no_tops_row a z (cons (plain same) (cons (plain same) nil)) = first_tops (λ ws v d. (tree.Declaration None ws [], spells.declaration d spells.no_tops, refl))

star_typedef_row : {ns next ns2 next2 : List Name} {s u : List Lexeme} (a z : ℕ) → All ns next (symbol.Stars true ∷ symbol.End ends.MoreStars ∷ symbol.NewName ∷ symbol.Dimensions true ∷ symbol.End ends.Declarator ∷ symbol.TopParameters ∷ symbol.TopValue ∷ symbol.End ends.Top ∷ symbol.TopMore ∷ symbol.End (ends.Declaration true) ∷ []) s u ns2 next2 → Means ns next (symbol.Tops true) (mark sign.Star a z ∷ s) u ns2 next2
star_typedef_row a z (cons (plain (ats, g)) (cons (plain same) (cons (new_name {n = n} {a = a1} h) (cons (plain (dims, f)) (cons (plain same) (cons (plain tp) (cons (plain tv) (cons (plain same) (cons (top_more i) (cons (plain same) nil)))))))))) = let t0 = top_of (tree.Declare (a ∷ ats) a1 n dims) (spells.declare (spells.star g) h f) tp tv in let q = i t0.top _ t0.spelled in typedef_tops (t0.top ∷ q.0) (spells.some_tops q.1) (also t0.top q.0 n _ _ t0.named q.2)
star_typedef_row a z (cons (plain (ats, g)) (cons (plain same) (cons (plain x0) _))) = elim x0 [ ]
star_typedef_row a z (cons (plain (ats, g)) (cons (plain same) (cons (new_name {n = n} {a = a1} h) (cons (plain (dims, f)) (cons (plain same) (cons (plain tp) (cons (plain tv) (cons (plain same) (cons (plain x0) _))))))))) = elim x0 [ ]

star_first_row : {ns next ns2 next2 : List Name} {s u : List Lexeme} (a z : ℕ) → All ns next (symbol.Stars true ∷ symbol.End ends.MoreStars ∷ symbol.NewName ∷ symbol.Dimensions true ∷ symbol.End ends.Declarator ∷ symbol.FirstParameters ∷ []) s u ns2 next2 → Means ns next (symbol.Tops false) (mark sign.Star a z ∷ s) u ns2 next2
star_first_row a z (cons (plain (ats, g)) (cons (plain same) (cons (new_name {n = n} {a = a1} h) (cons (plain (dims, f)) (cons (plain same) (cons (first_parameters i) nil)))))) = first_tops (λ ws v d. i ws (tree.Declare (a ∷ ats) a1 n dims) v _ d (spells.declare (spells.star g) h f))
star_first_row a z (cons (plain (ats, g)) (cons (plain same) (cons (plain x0) _))) = elim x0 [ ]
star_first_row a z (cons (plain (ats, g)) (cons (plain same) (cons (new_name {n = n} {a = a1} h) (cons (plain (dims, f)) (cons (plain same) (cons (plain x0) _)))))) = elim x0 [ ]

name_typedef_row : {ns next ns2 next2 : List Name} {s u : List Lexeme} (n : Name) (a z : ℕ) → is_made ns n ≡ false → All ns (n ∷ next) (symbol.Dimensions true ∷ symbol.End ends.Declarator ∷ symbol.TopParameters ∷ symbol.TopValue ∷ symbol.End ends.Top ∷ symbol.TopMore ∷ symbol.End (ends.Declaration true) ∷ []) s u ns2 next2 → Means ns next (symbol.Tops true) (named n a z ∷ s) u ns2 next2
name_typedef_row n a z h (cons (plain (dims, f)) (cons (plain same) (cons (plain tp) (cons (plain tv) (cons (plain same) (cons (top_more i) (cons (plain same) nil))))))) = let t0 = top_of (tree.Declare [] a n dims) (spells.declare spells.no_stars h f) tp tv in let q = i t0.top _ t0.spelled in typedef_tops (t0.top ∷ q.0) (spells.some_tops q.1) (also t0.top q.0 n _ _ t0.named q.2)
name_typedef_row n a z h (cons (plain (dims, f)) (cons (plain same) (cons (plain tp) (cons (plain tv) (cons (plain same) (cons (plain x0) _)))))) = elim x0 [ ]

name_first_row : {ns next ns2 next2 : List Name} {s u : List Lexeme} (n : Name) (a z : ℕ) → is_made ns n ≡ false → All ns (n ∷ next) (symbol.Dimensions true ∷ symbol.End ends.Declarator ∷ symbol.FirstParameters ∷ []) s u ns2 next2 → Means ns next (symbol.Tops false) (named n a z ∷ s) u ns2 next2
name_first_row n a z h (cons (plain (dims, f)) (cons (plain same) (cons (first_parameters i) nil))) = first_tops (λ ws v d. i ws (tree.Declare [] a n dims) v _ d (spells.declare spells.no_stars h f))
name_first_row n a z h (cons (plain (dims, f)) (cons (plain same) (cons (plain x0) _))) = elim x0 [ ]

pub tops_sound : (ns next : List Name) (f : Bool) (k : Kind) (a z : ℕ) → Sound ns next (symbol.Tops f) (token k a z) (choice.tops f (is_type ns k) k)
tops_sound ns next true (punct sign.Semicolon) a z = λ s u ns2 next2 all. no_typedef_row a z all
tops_sound ns next false (punct sign.Semicolon) a z = λ s u ns2 next2 all. no_tops_row a z all
tops_sound ns next true (punct sign.Star) a z = λ s u ns2 next2 all. star_typedef_row a z all
tops_sound ns next false (punct sign.Star) a z = λ s u ns2 next2 all. star_first_row a z all
tops_sound ns next true (name n) a z = if_sound ns next (symbol.Tops true) (named n a z) (is_made ns n) Refuse (Take (ends.NoStars ∷ []) (symbol.Dimensions true ∷ symbol.End ends.Declarator ∷ first_top true)) (λ h. tt) (λ h s u ns2 next2 all. name_typedef_row n a z h all)
tops_sound ns next false (name n) a z = if_sound ns next (symbol.Tops false) (named n a z) (is_made ns n) Refuse (Take (ends.NoStars ∷ []) (symbol.Dimensions true ∷ symbol.End ends.Declarator ∷ first_top false)) (λ h. tt) (λ h s u ns2 next2 all. name_first_row n a z h all)
tops_sound ns next f k a z = tt

first_equal_row : {ns next ns2 next2 : List Name} {s u : List Lexeme} (a z : ℕ) → All ns next (expression true 0 ∷ symbol.End ends.SomeValue ∷ symbol.End ends.Top ∷ symbol.TopMore ∷ symbol.End (ends.Declaration false) ∷ []) s u ns2 next2 → Means ns next symbol.FirstParameters (mark sign.Equal a z ∷ s) u ns2 next2
first_equal_row a z (cons (plain f) (cons (plain same) (cons (plain same) (cons (top_more i) (cons (plain same) nil))))) = first_parameters (λ ws d v v1 dw dd. let p = f refl in let q = i (tree.Topmost d None (Some p.0)) v1 (spells.object_value dd p.1) in (tree.Declaration None ws (tree.Topmost d None (Some p.0) ∷ q.0), spells.declaration dw (spells.some_tops q.1), refl))
first_equal_row a z (cons (plain f) (cons (plain same) (cons (plain same) (cons (plain x0) _)))) = elim x0 [ ]

first_comma_row : {ns next ns2 next2 : List Name} {s u : List Lexeme} (a z : ℕ) → All ns next (next_top (symbol.End (ends.Declaration false) ∷ [])) s u ns2 next2 → Means ns next symbol.FirstParameters (mark sign.Comma a z ∷ s) u ns2 next2
first_comma_row a z (cons (plain (ats, g)) (cons (new_name {n = n} {a = a1} h) (cons (plain (dims, f)) (cons (plain same) (cons (plain tp) (cons (plain tv) (cons (plain same) (cons (top_more i) (cons (plain same) (cons (plain same) nil)))))))))) = first_parameters (λ ws d v v1 dw dd. let t0 = top_of (tree.Declare ats a1 n dims) (spells.declare g h f) tp tv in let q = i t0.top _ t0.spelled in (tree.Declaration None ws (tree.Topmost d None None ∷ t0.top ∷ q.0), spells.declaration dw (spells.some_tops (spells.more_tops (spells.object dd) q.1)), refl))
first_comma_row a z (cons (plain (ats, g)) (cons (plain x0) _)) = elim x0 [ ]
first_comma_row a z (cons (plain (ats, g)) (cons (new_name {n = n} {a = a1} h) (cons (plain (dims, f)) (cons (plain same) (cons (plain tp) (cons (plain tv) (cons (plain same) (cons (plain x0) _)))))))) = elim x0 [ ]

first_end_row : {ns next ns2 next2 : List Name} {s u : List Lexeme} (a z : ℕ) → All ns next (symbol.End ends.LastTop ∷ symbol.End (ends.Declaration false) ∷ []) s u ns2 next2 → Means ns next symbol.FirstParameters (mark sign.Semicolon a z ∷ s) u ns2 next2
first_end_row a z (cons (plain same) (cons (plain same) nil)) = first_parameters (λ ws d v v1 dw dd. (tree.Declaration None ws (tree.Topmost d None None ∷ []), spells.declaration dw (spells.some_tops (spells.last_top (spells.object dd))), refl))

first_open_row : {ns next ns2 next2 : List Name} {s u : List Lexeme} (a z : ℕ) → All ns next (symbol.Parameters ∷ symbol.End ends.SomeParameters ∷ symbol.FirstRest ∷ []) s u ns2 next2 → Means ns next symbol.FirstParameters (mark sign.LeftParenthesis a z ∷ s) u ns2 next2
first_open_row a z (cons (plain m) (cons (plain same) (cons (first_rest i) nil))) = first_parameters (λ ws d v v1 dw dd. let p = m a z in i ws d p.0 v v1 _ dw dd p.1)
first_open_row a z (cons (plain m) (cons (plain same) (cons (plain x0) _))) = elim x0 [ ]

pub first_parameters_sound : (ns next : List Name) (k : Kind) (a z : ℕ) → Sound ns next symbol.FirstParameters (token k a z) (choice.first_parameters k)
first_parameters_sound ns next (punct sign.LeftParenthesis) a z = λ s u ns2 next2 all. first_open_row a z all
first_parameters_sound ns next (punct sign.Equal) a z = λ s u ns2 next2 all. first_equal_row a z all
first_parameters_sound ns next (punct sign.Comma) a z = λ s u ns2 next2 all. first_comma_row a z all
first_parameters_sound ns next (punct sign.Semicolon) a z = λ s u ns2 next2 all. first_end_row a z all
first_parameters_sound ns next k a z = tt

rest_equal_row : {ns next ns2 next2 : List Name} {s u : List Lexeme} (a z : ℕ) → All ns next (expression true 0 ∷ symbol.End ends.SomeValue ∷ symbol.End ends.Top ∷ symbol.TopMore ∷ symbol.End (ends.Declaration false) ∷ []) s u ns2 next2 → Means ns next symbol.FirstRest (mark sign.Equal a z ∷ s) u ns2 next2
rest_equal_row a z (cons (plain f) (cons (plain same) (cons (plain same) (cons (top_more i) (cons (plain same) nil))))) = first_rest (λ ws d pas v v1 v2 dw dd dp. let p = f refl in let q = i (tree.Topmost d (Some pas) (Some p.0)) v1 (spells.prototype_value dd dp p.1) in (tree.Declaration None ws (tree.Topmost d (Some pas) (Some p.0) ∷ q.0), spells.declaration dw (spells.some_tops q.1), refl))
rest_equal_row a z (cons (plain f) (cons (plain same) (cons (plain same) (cons (plain x0) _)))) = elim x0 [ ]

rest_comma_row : {ns next ns2 next2 : List Name} {s u : List Lexeme} (a z : ℕ) → All ns next (next_top (symbol.End (ends.Declaration false) ∷ [])) s u ns2 next2 → Means ns next symbol.FirstRest (mark sign.Comma a z ∷ s) u ns2 next2
rest_comma_row a z (cons (plain (ats, g)) (cons (new_name {n = n} {a = a1} h) (cons (plain (dims, f)) (cons (plain same) (cons (plain tp) (cons (plain tv) (cons (plain same) (cons (top_more i) (cons (plain same) (cons (plain same) nil)))))))))) = first_rest (λ ws d pas v v1 v2 dw dd dp. let t0 = top_of (tree.Declare ats a1 n dims) (spells.declare g h f) tp tv in let q = i t0.top _ t0.spelled in (tree.Declaration None ws (tree.Topmost d (Some pas) None ∷ t0.top ∷ q.0), spells.declaration dw (spells.some_tops (spells.more_tops (spells.prototype dd dp) q.1)), refl))
rest_comma_row a z (cons (plain (ats, g)) (cons (plain x0) _)) = elim x0 [ ]
rest_comma_row a z (cons (plain (ats, g)) (cons (new_name {n = n} {a = a1} h) (cons (plain (dims, f)) (cons (plain same) (cons (plain tp) (cons (plain tv) (cons (plain same) (cons (plain x0) _)))))))) = elim x0 [ ]

rest_end_row : {ns next ns2 next2 : List Name} {s u : List Lexeme} (a z : ℕ) → All ns next (symbol.End ends.LastTop ∷ symbol.End (ends.Declaration false) ∷ []) s u ns2 next2 → Means ns next symbol.FirstRest (mark sign.Semicolon a z ∷ s) u ns2 next2
rest_end_row a z (cons (plain same) (cons (plain same) nil)) = first_rest (λ ws d pas v v1 v2 dw dd dp. (tree.Declaration None ws (tree.Topmost d (Some pas) None ∷ []), spells.declaration dw (spells.some_tops (spells.last_top (spells.prototype dd dp))), refl))

function_row : {ns next ns2 next2 : List Name} {s u : List Lexeme} (a z : ℕ) → All ns next (symbol.Items ∷ symbol.RightBrace ∷ symbol.End ends.Function ∷ []) s u ns2 next2 → Means ns next symbol.FirstRest (mark sign.LeftBrace a z ∷ s) u ns2 next2
function_row a z (cons (plain (its, d0)) (cons (plain is_mark) (cons (plain same) nil))) = first_rest (λ ws d pas v v1 v2 dw dd dp. (tree.Function ws d pas its, spells.function dw dd dp d0, refl))

pub first_rest_sound : (ns next : List Name) (k : Kind) (a z : ℕ) → Sound ns next symbol.FirstRest (token k a z) (choice.first_rest k)
first_rest_sound ns next (punct sign.LeftBrace) a z = λ s u ns2 next2 all. function_row a z all
first_rest_sound ns next (punct sign.Equal) a z = λ s u ns2 next2 all. rest_equal_row a z all
first_rest_sound ns next (punct sign.Comma) a z = λ s u ns2 next2 all. rest_comma_row a z all
first_rest_sound ns next (punct sign.Semicolon) a z = λ s u ns2 next2 all. rest_end_row a z all
first_rest_sound ns next k a z = tt

-- Parameters.

pub record ParamOf (ns : List Name) (s t : List Lexeme) : Type 0 where
  pub param : Param
  pub spelled : SpellsParam ns param s t

param_of : {ns : List Name} {s t u v w : List Lexeme} {ws : Words} {ats : List ℕ} {br : Bracket} → SpellsWords ns false seen.Nothing ws s t → SpellsStars false ats t u → MayHaveName ns u v → SpellsBracket ns br v w → ParamOf ns s w
param_of {ws = ws} {ats = ats} {br = br} d f without_name g = record { param = tree.Parameter ws ats None br; spelled = spells.unnamed d f g }
param_of {ws = ws} {ats = ats} {br = br} d f (with_name {n = n} {a = a} h) g = record { param = tree.Parameter ws ats (Some (a, n)) br; spelled = spells.parameter d f h g }

empty_parameters_row : {ns next ns2 next2 : List Name} {s u : List Lexeme} (a z : ℕ) → All ns next (symbol.End ends.EmptyParameters ∷ []) s u ns2 next2 → Means ns next symbol.Parameters (mark sign.RightParenthesis a z ∷ s) u ns2 next2
empty_parameters_row a z (cons (plain same) nil) = plain (λ a1 z1. ([], spells.no_parameters))

parameters_row : {ns next ns1 next1 ns2 next2 : List Name} {s m u : List Lexeme} (x : Lexeme) → Means ns next (symbol.Words false seen.Nothing) (x ∷ s) m ns1 next1 → All ns1 next1 (parameter_rest []) m u ns2 next2 → Means ns next symbol.Parameters (x ∷ s) u ns2 next2
parameters_row x (plain (ws, d)) (cons (plain (ats, g)) (cons (plain pn) (cons (plain (br, e)) (cons (plain same) (cons (plain i) nil))))) = let p = param_of d g pn e in let q = i p.param _ p.spelled in plain (λ a1 z1. (spells.parameters q.0, spells.some_parameters q.1))

pub parameters_sound : (ns next : List Name) (k : Kind) (a z : ℕ) → Sound ns next symbol.Parameters (token k a z) (choice.parameters (is_type ns k) k)
parameters_sound ns next (punct sign.RightParenthesis) a z = λ s u ns2 next2 all. empty_parameters_row a z all
parameters_sound ns next k a z = then_sound ns next symbol.Parameters (symbol.Words false seen.Nothing) (token k a z) (choice.words false seen.Nothing (is_type ns k) k) (parameter_rest []) (words_sound ns next false seen.Nothing k a z) refl (λ s m u ns1 next1 ns2 next2 first all. parameters_row (token k a z) first all)

more_parameters_row : {ns next ns2 next2 : List Name} {s u : List Lexeme} (a z : ℕ) → All ns next (symbol.Words false seen.Nothing ∷ parameter_rest (symbol.End ends.MoreParameters ∷ [])) s u ns2 next2 → Means ns next symbol.ParametersMore (mark sign.Comma a z ∷ s) u ns2 next2
more_parameters_row a z (cons (plain (ws, d)) (cons (plain (ats, g)) (cons (plain pn) (cons (plain (br, e)) (cons (plain same) (cons (plain i) (cons (plain same) nil))))))) = plain (λ pa v f. let p = param_of d g pn e in let q = i p.param _ p.spelled in (pa ∷ q.0, spells.more_parameters f q.1))

last_parameter_row : {ns next ns2 next2 : List Name} {s u : List Lexeme} (a z : ℕ) → All ns next (symbol.End ends.LastParameter ∷ []) s u ns2 next2 → Means ns next symbol.ParametersMore (mark sign.RightParenthesis a z ∷ s) u ns2 next2
last_parameter_row a z (cons (plain same) nil) = plain (λ pa v f. (pa ∷ [], spells.last_parameter f))

pub parameters_more_sound : (ns next : List Name) (k : Kind) (a z : ℕ) → Sound ns next symbol.ParametersMore (token k a z) (choice.parameters_more k)
parameters_more_sound ns next (punct sign.Comma) a z = λ s u ns2 next2 all. more_parameters_row a z all
parameters_more_sound ns next (punct sign.RightParenthesis) a z = λ s u ns2 next2 all. last_parameter_row a z all
parameters_more_sound ns next k a z = tt

parameter_name_row : {ns next ns2 next2 : List Name} {s u : List Lexeme} (n : Name) (a z : ℕ) → is_made ns n ≡ false → All ns next (symbol.End ends.ParameterName ∷ []) s u ns2 next2 → Means ns next symbol.ParameterName (named n a z ∷ s) u ns2 next2
parameter_name_row n a z h (cons (plain same) nil) = plain (with_name h)

pub parameter_name_sound : (ns next : List Name) (k : Kind) (a z : ℕ) → Sound ns next symbol.ParameterName (token k a z) (choice.parameter_name (is_type ns k) k)
parameter_name_sound ns next (name n) a z = if_sound ns next symbol.ParameterName (named n a z) (is_made ns n) (Pass (ends.NoParameterName ∷ [])) (take (symbol.End ends.ParameterName ∷ [])) (λ h s. plain without_name) (λ h s u ns2 next2 all. parameter_name_row n a z h all)
parameter_name_sound ns next k a z = λ s. plain without_name

bracket_row : {ns next ns2 next2 : List Name} {s u : List Lexeme} (a z : ℕ) → All ns next (symbol.BracketRest ∷ []) s u ns2 next2 → Means ns next symbol.ParameterBracket (mark sign.LeftBracket a z ∷ s) u ns2 next2
bracket_row a z (cons (plain m) nil) = plain (m a z)

pub parameter_bracket_sound : (ns next : List Name) (k : Kind) (a z : ℕ) → Sound ns next symbol.ParameterBracket (token k a z) (choice.parameter_bracket k)
parameter_bracket_sound ns next (punct sign.LeftBracket) a z = λ s u ns2 next2 all. bracket_row a z all
parameter_bracket_sound ns next k a z = λ s. plain (tree.NoBracket, spells.no_bracket)

open_bracket_row : {ns next ns2 next2 : List Name} {s u : List Lexeme} (a z : ℕ) → All ns next (symbol.End ends.OpenBracket ∷ []) s u ns2 next2 → Means ns next symbol.BracketRest (mark sign.RightBracket a z ∷ s) u ns2 next2
open_bracket_row a z (cons (plain same) nil) = plain (λ a1 z1. (tree.OpenBracket a1, spells.open_bracket))

sized_bracket_row : {ns next ns1 next1 ns2 next2 : List Name} {s m u : List Lexeme} (x : Lexeme) → Means ns next (expression false 0) (x ∷ s) m ns1 next1 → All ns1 next1 (symbol.RightBracket ∷ symbol.End ends.SizedBracket ∷ []) m u ns2 next2 → Means ns next symbol.BracketRest (x ∷ s) u ns2 next2
sized_bracket_row x (plain f) (cons (plain is_mark) (cons (plain same) nil)) = let p = f refl in plain (λ a1 z1. (tree.SizedBracket a1 p.0, spells.sized_bracket p.1))

pub bracket_rest_sound : (ns next : List Name) (k : Kind) (a z : ℕ) → Sound ns next symbol.BracketRest (token k a z) (choice.bracket_rest (is_type ns k) k)
bracket_rest_sound ns next (punct sign.RightBracket) a z = λ s u ns2 next2 all. open_bracket_row a z all
bracket_rest_sound ns next k a z = then_sound ns next symbol.BracketRest (expression false 0) (token k a z) (choice.operand false (wanted.Level 0) (is_type ns k) k) (symbol.RightBracket ∷ symbol.End ends.SizedBracket ∷ []) (operand_sound ns next false (wanted.Level 0) k a z) refl (λ s m u ns1 next1 ns2 next2 first all. sized_bracket_row (token k a z) first all)

-- Externals.

typedef_row : {ns next ns2 next2 : List Name} {s u : List Lexeme} (a z : ℕ) → All ns next (symbol.Words true seen.Nothing ∷ symbol.Tops true ∷ symbol.Made true ∷ symbol.Externals ∷ symbol.End ends.MoreExternals ∷ []) s u ns2 next2 → Means ns next symbol.Externals (reserved word.Typedef a z ∷ s) u ns2 next2
typedef_row a z (cons (plain (ws, d)) (cons (typedef_tops {t = t} tops f e) (cons made_true (cons (externals i) (cons (plain same) nil))))) = externals (λ q. let p = i refl in (tree.Declaration (Some a) ws tops ∷ p.0, spells.more_externals (spells.typedef d f) (subst (λ v. SpellsUnit v p.0 t) (sym (ap (names_of tops) (sym q) ∙ e)) p.1)))
typedef_row a z (cons (plain (ws, d)) (cons (plain x0) _)) = elim x0 [ ]
typedef_row a z (cons (plain (ws, d)) (cons (typedef_tops {t = t} tops f e) (cons (plain x0) _))) = elim x0 [ ]
typedef_row a z (cons (plain (ws, d)) (cons (typedef_tops {t = t} tops f e) (cons made_true (cons (plain x0) _)))) = elim x0 [ ]

external_row : {ns next ns1 next1 ns2 next2 : List Name} {s m u : List Lexeme} (x : Lexeme) → Means ns next (symbol.Words true seen.Nothing) (x ∷ s) m ns1 next1 → All ns1 next1 (symbol.Tops false ∷ symbol.Made false ∷ symbol.Externals ∷ symbol.End ends.MoreExternals ∷ []) m u ns2 next2 → Means ns next symbol.Externals (x ∷ s) u ns2 next2
external_row x (plain (ws, d)) (cons (first_tops {t = t} g) (cons made_false (cons (externals i) (cons (plain same) nil)))) = externals (λ q. let p = g ws _ d in let r = i refl in (p.0 ∷ r.0, spells.more_externals p.1 (subst (λ v. SpellsUnit v r.0 t) (sym p.2) r.1)))
external_row x (plain (ws, d)) (cons (plain x0) _) = elim x0 [ ]
external_row x (plain (ws, d)) (cons (first_tops {t = t} g) (cons (plain x0) _)) = elim x0 [ ]
external_row x (plain (ws, d)) (cons (first_tops {t = t} g) (cons made_false (cons (plain x0) _))) = elim x0 [ ]

pub externals_sound : (ns next : List Name) (k : Kind) (a z : ℕ) → Sound ns next symbol.Externals (token k a z) (choice.externals (is_type ns k) k)
externals_sound ns next (keyword word.Typedef) a z = λ s u ns2 next2 all. typedef_row a z all
externals_sound ns next k a z = then_sound ns next symbol.Externals (symbol.Words true seen.Nothing) (token k a z) (choice.words true seen.Nothing (is_type ns k) k) (symbol.Tops false ∷ symbol.Made false ∷ symbol.Externals ∷ symbol.End ends.MoreExternals ∷ []) (words_sound ns next true seen.Nothing k a z) refl (λ s m u ns1 next1 ns2 next2 first all. external_row (token k a z) first all)

-- Tokens that are expected as they are.

left_parenthesis_row : {ns next ns2 next2 : List Name} {s u : List Lexeme} (a z : ℕ) → All ns next ([]) s u ns2 next2 → Means ns next symbol.LeftParenthesis (mark sign.LeftParenthesis a z ∷ s) u ns2 next2
left_parenthesis_row a z nil = plain is_mark

pub left_parenthesis_sound : (ns next : List Name) (k : Kind) (a z : ℕ) → Sound ns next symbol.LeftParenthesis (token k a z) (choice.left_parenthesis k)
left_parenthesis_sound ns next (punct sign.LeftParenthesis) a z = λ s u ns2 next2 all. left_parenthesis_row a z all
left_parenthesis_sound ns next k a z = tt

right_parenthesis_row : {ns next ns2 next2 : List Name} {s u : List Lexeme} (a z : ℕ) → All ns next ([]) s u ns2 next2 → Means ns next symbol.RightParenthesis (mark sign.RightParenthesis a z ∷ s) u ns2 next2
right_parenthesis_row a z nil = plain is_mark

pub right_parenthesis_sound : (ns next : List Name) (k : Kind) (a z : ℕ) → Sound ns next symbol.RightParenthesis (token k a z) (choice.right_parenthesis k)
right_parenthesis_sound ns next (punct sign.RightParenthesis) a z = λ s u ns2 next2 all. right_parenthesis_row a z all
right_parenthesis_sound ns next k a z = tt

right_bracket_row : {ns next ns2 next2 : List Name} {s u : List Lexeme} (a z : ℕ) → All ns next ([]) s u ns2 next2 → Means ns next symbol.RightBracket (mark sign.RightBracket a z ∷ s) u ns2 next2
right_bracket_row a z nil = plain is_mark

pub right_bracket_sound : (ns next : List Name) (k : Kind) (a z : ℕ) → Sound ns next symbol.RightBracket (token k a z) (choice.right_bracket k)
right_bracket_sound ns next (punct sign.RightBracket) a z = λ s u ns2 next2 all. right_bracket_row a z all
right_bracket_sound ns next k a z = tt

left_brace_row : {ns next ns2 next2 : List Name} {s u : List Lexeme} (a z : ℕ) → All ns next ([]) s u ns2 next2 → Means ns next symbol.LeftBrace (mark sign.LeftBrace a z ∷ s) u ns2 next2
left_brace_row a z nil = plain is_mark

pub left_brace_sound : (ns next : List Name) (k : Kind) (a z : ℕ) → Sound ns next symbol.LeftBrace (token k a z) (choice.left_brace k)
left_brace_sound ns next (punct sign.LeftBrace) a z = λ s u ns2 next2 all. left_brace_row a z all
left_brace_sound ns next k a z = tt

right_brace_row : {ns next ns2 next2 : List Name} {s u : List Lexeme} (a z : ℕ) → All ns next ([]) s u ns2 next2 → Means ns next symbol.RightBrace (mark sign.RightBrace a z ∷ s) u ns2 next2
right_brace_row a z nil = plain is_mark

pub right_brace_sound : (ns next : List Name) (k : Kind) (a z : ℕ) → Sound ns next symbol.RightBrace (token k a z) (choice.right_brace k)
right_brace_sound ns next (punct sign.RightBrace) a z = λ s u ns2 next2 all. right_brace_row a z all
right_brace_sound ns next k a z = tt

semicolon_row : {ns next ns2 next2 : List Name} {s u : List Lexeme} (a z : ℕ) → All ns next ([]) s u ns2 next2 → Means ns next symbol.Semicolon (mark sign.Semicolon a z ∷ s) u ns2 next2
semicolon_row a z nil = plain is_mark

pub semicolon_sound : (ns next : List Name) (k : Kind) (a z : ℕ) → Sound ns next symbol.Semicolon (token k a z) (choice.semicolon k)
semicolon_sound ns next (punct sign.Semicolon) a z = λ s u ns2 next2 all. semicolon_row a z all
semicolon_sound ns next k a z = tt

colon_row : {ns next ns2 next2 : List Name} {s u : List Lexeme} (a z : ℕ) → All ns next ([]) s u ns2 next2 → Means ns next symbol.Colon (mark sign.Colon a z ∷ s) u ns2 next2
colon_row a z nil = plain is_mark

pub colon_sound : (ns next : List Name) (k : Kind) (a z : ℕ) → Sound ns next symbol.Colon (token k a z) (choice.colon k)
colon_sound ns next (punct sign.Colon) a z = λ s u ns2 next2 all. colon_row a z all
colon_sound ns next k a z = tt

while_word_row : {ns next ns2 next2 : List Name} {s u : List Lexeme} (a z : ℕ) → All ns next ([]) s u ns2 next2 → Means ns next symbol.While (reserved word.While a z ∷ s) u ns2 next2
while_word_row a z nil = plain is_word

pub while_word_sound : (ns next : List Name) (k : Kind) (a z : ℕ) → Sound ns next symbol.While (token k a z) (choice.while_word k)
while_word_sound ns next (keyword word.While) a z = λ s u ns2 next2 all. while_word_row a z all
while_word_sound ns next k a z = tt

identifier_row : {ns next ns2 next2 : List Name} {s u : List Lexeme} (n : Name) (a z : ℕ) → is_made ns n ≡ false → All ns next ([]) s u ns2 next2 → Means ns next symbol.Identifier (named n a z ∷ s) u ns2 next2
identifier_row n a z h nil = plain (is_name h)

pub identifier_sound : (ns next : List Name) (k : Kind) (a z : ℕ) → Sound ns next symbol.Identifier (token k a z) (choice.identifier (is_type ns k) k)
identifier_sound ns next (name n) a z = if_sound ns next symbol.Identifier (named n a z) (is_made ns n) Refuse (take []) (λ h. tt) (λ h s u ns2 next2 all. identifier_row n a z h all)
identifier_sound ns next k a z = tt

new_name_row : {ns next ns2 next2 : List Name} {s u : List Lexeme} (n : Name) (a z : ℕ) → is_made ns n ≡ false → All ns (n ∷ next) ([]) s u ns2 next2 → Means ns next symbol.NewName (named n a z ∷ s) u ns2 next2
new_name_row n a z h nil = new_name h

pub new_name_sound : (ns next : List Name) (k : Kind) (a z : ℕ) → Sound ns next symbol.NewName (token k a z) (choice.identifier (is_type ns k) k)
new_name_sound ns next (name n) a z = if_sound ns next symbol.NewName (named n a z) (is_made ns n) Refuse (take []) (λ h. tt) (λ h s u ns2 next2 all. new_name_row n a z h all)
new_name_sound ns next k a z = tt
