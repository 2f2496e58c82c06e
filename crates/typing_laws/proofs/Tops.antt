-- Globals, prototypes and typedefs of a file.
use Rattle.std.proofs.Common.{ℕ, Bool, true, false, List, [], ◌∷◌, Option, Some, None, is_some, ◌≡◌, refl}
use Rattle.c_values.specs.Name.{Name}
use Rattle.c_values.specs.Types.{CType}
use Rattle.c_grammar.specs.Tree as tree
use Rattle.typing_rules.specs.File.{global_named}
use Rattle.typing_rules.specs.Scope.{Scope, Global}
use Rattle.typing_rules.specs.Checked.{Checked, Good, Judgement, then, rule, in_block, Ruling}
use Rattle.typing_rules.specs.Constant.{constant_value}
use Rattle.c_lang.specs.Cast.{has_cast}
use Rattle.typing_rules.specs.Declarations.{Base, Declared}
use Rattle.typing_rules.specs.Expressions.{base, declarator, value, first, constant_of, note}
use Rattle.typing_rules.specs.Functions.{Parameter, parameters, types, function_rule, add_function}
use Rattle.typing_rules.specs.Globals.{global_rule, add_global, initial_rule, set_initial, constant_expression, initialised, uninitialised, global, prototype, typedef_rule, add_typedef, typedef, prototype_parameters, declaration_of, top, tops, declaration}
use Rattle.typing_laws.specs.Written.{Each, Where, IsExp, AreWords, IsParam, IsTop}
use Rattle.typing_laws.proofs.Rulings as R
use Rattle.typing_laws.proofs.Steps.{reach_any_rule, reach_then}
use Rattle.typing_laws.proofs.Declared.{same_names, reach_changed}
use Rattle.typing_laws.proofs.Scopes.{file_names}
use Rattle.typing_laws.proofs.Operands.{base_reached, value_reached}
use Rattle.typing_laws.proofs.Outcomes.{Gives, gives, fails, gives_then, gives_step, gives_weaker}
use Rattle.typing_laws.proofs.Files.{Nothing, IsFile, next_twice, parameters_in_block, head_given, function_ruled, function_added}
use Rattle.typing_laws.proofs.Globals.{Next, next_itself, global_ruled, global_added, initial_ruled, initial_set, plainly}

-- the scope before and the one that an answer has behind it
next_then : {A B : Type 0} {s : Scope} (c : Checked (A × Scope)) (f : A → Judgement B) → Gives (Next s) c → ((a : A) (t : Scope) → IsFile t → Gives (Next t) (f a t)) → Gives (Next s) (then c f)
next_then c f h k = gives_then c f h (λ a t n. gives_weaker (f a t) (k a t n.file) (λ b u m. next_twice n m))

constant_given : (e : tree.Exp) → IsExp e → (s : Scope) → IsFile s → Gives (Next s) (constant_expression e s)
constant_given e i s h = plainly (constant_expression e s) h
    (reach_then (value e s) _ (value_reached Nothing e i s h.fits) (λ a t k.
    reach_then (rule (first e) (λ u. constant_of a (constant_value u.layout a)) t) _ (reach_any_rule (first e) t _ k.fits) (λ c u m.
    reach_changed u (note (has_cast a) u) a (same_names Nothing u (note (has_cast a) u) refl refl refl refl m.fits))))

-- a rule that says something of the scope
ruled_then : {A B : Type 0} {P : A → Type 0} {s : Scope} (at : ℕ) (r : Ruling A) (f : A → Judgement B) → R.Rules P r → IsFile s → ((a : A) → P a → Gives (Next s) (f a s)) → Gives (Next s) (then (rule at (λ u. r) s) f)
ruled_then at _ f (R.ruled {a} h) n k = k a h
ruled_then at _ f R.refused n k = fails

initialised_given : (at : ℕ) (x : Name) (t : CType) (e : Option tree.Exp) → Where IsExp e → (s : Scope) → IsFile s → file_names s.blocks x ≡ Some (Global t) → Gives (Next s) (initialised at x t e s)
initialised_given at x t None i s h named = gives (tt, s) (next_itself s h)
initialised_given at x t (Some e) i s h named =
    gives_then (constant_expression e s) _ (constant_given e i s h) (λ a u k.
    gives_weaker _ (ruled_then at (initial_rule x t a u) _ (initial_ruled x t a u) k.file (λ n c.
    gives (tt, set_initial x n u) (initial_set u x t n (global_named u.file.globals x) refl (k.later.names x (Global t) named) c k.file))) (λ b v m. next_twice k m))

uninitialised_given : (at : ℕ) (e : Option tree.Exp) → Where IsExp e → (s : Scope) → IsFile s → Gives (Next s) (uninitialised at e s)
uninitialised_given at None i s h = gives (tt, s) (next_itself s h)
uninitialised_given at (Some e) i s h =
    gives_then (value e s) _ (gives_step (value e s) (value_reached Nothing e i s h.fits)) (λ a t k. fails)

global_given : (is_extern : Bool) (d : Declared) (e : Option tree.Exp) → Where IsExp e → (s : Scope) → IsFile s → Gives (Next s) (global is_extern d e s)
global_given is_extern d e i s h =
    ruled_then d.at (global_rule is_extern d s) _ (global_ruled is_extern d s) h (λ t c.
    let n = global_added s is_extern d.name t h c.free c.object in
    let u = add_global is_extern d.name t s in
    gives_weaker (initialised d.at d.name t e u) (initialised_given d.at d.name t e i u n.next.file n.named) (λ a v k. next_twice n.next k))

prototype_given : (d : Declared) (ps : List Parameter) (e : Option tree.Exp) → Where IsExp e → (s : Scope) → IsFile s → Gives (Next s) (prototype d ps e s)
prototype_given d ps e i s h =
    ruled_then d.at (function_rule d ps s) _ (function_ruled d ps s) h (λ r c.
    next_then (Good (r, add_function d.name r (types ps) s)) _ (gives (r, add_function d.name r (types ps) s) (function_added s d.name r (types ps) h c.agrees).next) (λ q u k. uninitialised_given d.at e i u k))

typedef_given : (d : Declared) (ps : Option (List Parameter)) (e : Option tree.Exp) → Where IsExp e → (s : Scope) → IsFile s → Gives (Next s) (typedef d ps e s)
typedef_given d ps e i s h =
    next_then (rule d.at (typedef_rule (is_some ps) d) s) _ (plainly _ h (reach_any_rule d.at s _ h.fits)) (λ t u k.
    next_then (Good (t, add_typedef d.name t u)) _ (plainly _ k (reach_changed u (add_typedef d.name t u) t (same_names Nothing u (add_typedef d.name t u) refl refl refl refl k.fits))) (λ a v m.
    uninitialised_given d.at e i v m))

prototype_parameters_given : (ps : Option (List tree.Param)) → Where (Each IsParam) ps → (s : Scope) → IsFile s → Gives (Next s) (prototype_parameters ps s)
prototype_parameters_given None i s h = gives (None, s) (next_itself s h)
prototype_parameters_given (Some ps) i s h =
    gives_then (in_block (parameters false ps) s) _ (parameters_in_block false ps i s h) (λ qs t k. gives (Some qs, t) k.next)

declaration_of_given : (is_typedef : Bool) (b : Base) (d : Declared) (ps : Option (List Parameter)) (e : Option tree.Exp) → Where IsExp e → (s : Scope) → IsFile s → Gives (Next s) (declaration_of is_typedef b d ps e s)
declaration_of_given true b d ps e i s h = typedef_given d ps e i s h
declaration_of_given false b d None e i s h = global_given b.is_extern d e i s h
declaration_of_given false b d (Some ps) e i s h = prototype_given d ps e i s h

top_given : (is_typedef : Bool) (b : Base) (t : tree.Top) → IsTop t → (s : Scope) → IsFile s → Gives (Next s) (top is_typedef b t s)
top_given is_typedef b (tree.Topmost d ps e) i s h =
    next_then (declarator b.type d s) _ (gives_weaker (declarator b.type d s) (head_given b.type d i.0 s h) (λ head t k. k.next)) (λ head t k.
    next_then (prototype_parameters ps t) _ (prototype_parameters_given ps i.1 t k) (λ qs u m. declaration_of_given is_typedef b head qs e i.2 u m))

tops_given : (is_typedef : Bool) (b : Base) (ts : List tree.Top) → Each IsTop ts → (s : Scope) → IsFile s → Gives (Next s) (tops is_typedef b ts s)
tops_given is_typedef b [] i s h = gives (tt, s) (next_itself s h)
tops_given is_typedef b (t ∷ ts) i s h = next_then (top is_typedef b t s) _ (top_given is_typedef b t i.0 s h) (λ a u k. tops_given is_typedef b ts i.1 u k)

pub declaration_given : (is_typedef : Bool) (ws : tree.Words) (ts : List tree.Top) → AreWords ws → Each IsTop ts → (s : Scope) → IsFile s → Gives (Next s) (declaration is_typedef ws ts s)
declaration_given is_typedef ws ts iw it s h =
    next_then (base ws s) _ (plainly (base ws s) h (base_reached Nothing ws iw s h.fits)) (λ b t k. tops_given is_typedef b ts it t k)
