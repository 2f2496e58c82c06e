-- The tree that a text's tokens spell is written, and has no more numbers than the text has bytes.
use Rattle.std.proofs.Common.{ℕ, ◌+◌, ◌^◌, ◌<◌, ◌≤◌, List, [], ◌∷◌, length, None, arith, le_refl}
use Rattle.c_lex.specs.declared.token.Keyword.TheVariants as word
use Rattle.c_lex.specs.Lexeme.{Lexeme}
use Rattle.c_lex.specs.Tokens.{Tokens, Ascends}
use Rattle.c_grammar.specs.Tree as tree
use Rattle.c_grammar.specs.Tree.{Name, Bracket, Param, Top, External}
use Rattle.c_grammar.specs.Spells.{SpellsBracket, no_bracket, open_bracket, sized_bracket, SpellsParam, unnamed, parameter, SpellsParams, last_parameter, more_parameters, parameters, SpellsParameters, no_parameters, some_parameters, SpellsTop, object, object_value, prototype, prototype_value, SpellsTops, last_top, more_tops, SpellsDeclared, no_tops, some_tops, SpellsExternal, function, declaration, typedef, SpellsUnit, no_externals, more_externals, Spells}
use Rattle.typing_laws.specs.Written.{Each, IsBracket, IsParam, IsTop, IsExternal, AreWritten}
use Rattle.c_lex.proofs.Leads.{spans_ascend}
use Rattle.typing_laws.proofs.Lexed.{AreKinds, tokens_kinds}
use Rattle.typing_laws.specs.Count.{numbered_of, numbered_in}
use Rattle.typing_laws.proofs.SpelledStatements.{Takes, exp_taken, words_taken, declarator_taken, stars_taken, items_taken}

bracket_taken : {ns : List Name} {b : Bracket} {s t : List Lexeme} → SpellsBracket ns b s t → AreKinds s → Takes (IsBracket b) 0 s t
bracket_taken no_bracket w = (tt, w, omega arith)
bracket_taken open_bracket w = (tt, w.1.1, omega arith)
bracket_taken (sized_bracket h) w = let r = exp_taken h w.1 in (r.0, r.1.1, omega (arith, r.2))

param_taken : {ns : List Name} {p : Param} {s t : List Lexeme} → SpellsParam ns p s t → AreKinds s → Takes (IsParam p) 0 s t
param_taken (unnamed h k m) w = let r = words_taken h w in let o = stars_taken k r.1 in let q = bracket_taken m o.0 in ((r.0, tt, q.0), q.1, omega (arith, r.2, o.1, q.2))
param_taken (parameter h k c m) w = let r = words_taken h w in let o = stars_taken k r.1 in let q = bracket_taken m o.0.1 in ((r.0, o.0.0, q.0), q.1, omega (arith, r.2, o.1, q.2))

params_taken : {ns : List Name} {ps : List Param} {s t : List Lexeme} → SpellsParams ns ps s t → AreKinds s → Takes (Each IsParam ps) (length ps) s t
params_taken (last_parameter h) w = let r = param_taken h w in ((r.0, tt), r.1.1, omega (arith, r.2))
params_taken (more_parameters h k) w = let r = param_taken h w in let q = params_taken k r.1.1 in ((r.0, q.0), q.1, omega (arith, r.2, q.2))

-- `(void)` has none
without_void : (ps : List Param) → Each IsParam ps → Each IsParam (parameters ps)
without_void (tree.Parameter (tree.MoreWords (tree.Reserved a word.Void) tree.NoWords) [] None tree.NoBracket ∷ []) h = tt
without_void ps h = h

fewer_without : (ps : List Param) → length (parameters ps) ≤ length ps
fewer_without (tree.Parameter (tree.MoreWords (tree.Reserved a word.Void) tree.NoWords) [] None tree.NoBracket ∷ []) = omega arith
fewer_without ps = le_refl (length ps)

parameters_taken : {ns : List Name} {ps : List Param} {s t : List Lexeme} → SpellsParameters ns ps s t → AreKinds s → Takes (Each IsParam ps) (length ps) s t
parameters_taken no_parameters w = (tt, w.1.1, omega arith)
parameters_taken (some_parameters {pas} h) w = let r = params_taken h w.1 in (without_void pas r.0, r.1, omega (arith, r.2, fewer_without pas))

top_taken : {ns : List Name} {p : Top} {s t : List Lexeme} → SpellsTop ns p s t → AreKinds s → Takes (IsTop p) 0 s t
top_taken (object h) w = let r = declarator_taken h w in ((r.0, tt, tt), r.1, omega (arith, r.2))
top_taken (object_value h k) w = let r = declarator_taken h w in let q = exp_taken k r.1.1 in ((r.0, tt, q.0), q.1, omega (arith, r.2, q.2))
top_taken (prototype h k) w = let r = declarator_taken h w in let q = parameters_taken k r.1 in ((r.0, q.0, tt), q.1, omega (arith, r.2, q.2))
top_taken (prototype_value h k m) w =
    let r = declarator_taken h w in let q = parameters_taken k r.1 in let o = exp_taken m q.1.1 in ((r.0, q.0, o.0), o.1, omega (arith, r.2, q.2, o.2))

tops_taken : {ns : List Name} {ps : List Top} {s t : List Lexeme} → SpellsTops ns ps s t → AreKinds s → Takes (Each IsTop ps) 0 s t
tops_taken (last_top h) w = let r = top_taken h w in ((r.0, tt), r.1.1, omega (arith, r.2))
tops_taken (more_tops h k) w = let r = top_taken h w in let q = tops_taken k r.1.1 in ((r.0, q.0), q.1, omega (arith, r.2, q.2))

declared_taken : {ns : List Name} {ps : List Top} {s t : List Lexeme} → SpellsDeclared ns ps s t → AreKinds s → Takes (Each IsTop ps) 0 s t
declared_taken no_tops w = (tt, w.1, omega arith)
declared_taken (some_tops h) w = tops_taken h w

external_taken : {ns : List Name} {x : External} {s t : List Lexeme} → SpellsExternal ns x s t → AreKinds s → Takes (IsExternal x) (numbered_of x) s t
external_taken (function h k m n) w =
    let r = words_taken h w in let q = declarator_taken k r.1 in let p = parameters_taken m q.1 in let i = items_taken n p.1.1 in
    ((r.0, q.0, p.0, i.0), i.1.1, omega (arith, r.2, q.2, p.2, i.2))
external_taken (declaration h k) w = let r = words_taken h w in let q = declared_taken k r.1 in ((r.0, q.0), q.1, omega (arith, r.2, q.2))
external_taken (typedef h k) w = let r = words_taken h w.1 in let q = declared_taken k r.1 in ((r.0, q.0), q.1, omega (arith, r.2, q.2))

unit_taken : {ns : List Name} {xs : List External} {s : List Lexeme} → SpellsUnit ns xs s → AreKinds s → Each IsExternal xs × (numbered_in xs ≤ length s)
unit_taken no_externals w = (tt, omega arith)
unit_taken (more_externals h k) w = let r = external_taken h w in let q = unit_taken k r.1 in ((r.0, q.0), omega (arith, r.2, q.1))

-- each token takes a byte
fewer_tokens : (at end : ℕ) (ts : List Lexeme) → Ascends at end ts → at + length ts ≤ end
fewer_tokens at end [] h = omega (arith, h)
fewer_tokens at end (t ∷ ts) h = omega (arith, h.0, h.1, fewer_tokens t.to end ts h.2)

pub texts_are_written : (text : List ℕ) (ts : List Lexeme) (xs : List External) → length text < 2 ^ 64 → Tokens text ts → Spells xs ts → AreWritten xs
texts_are_written text ts xs short h k =
    let r = unit_taken k (tokens_kinds text ts h) in
    record { externals = r.0; few = omega (arith, r.1, fewer_tokens 0 (length text) ts (spans_ascend text ts h), short) }
