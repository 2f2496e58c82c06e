-- Functions with their bodies.
use Rattle.std.proofs.Common.{◌≡◌, ℕ, ◌+◌, ◌^◌, ◌<◌, ◌≤◌, lt_of_le_of_lt, Bool, true, false, cond, List, [], ◌∷◌, ◌++◌, length, map, Option, Some, is_some, refl, ap, subst, arith, length-append}
use Rattle.c_values.specs.Name.{Name, same_name}
use Rattle.c_values.specs.Types.{CType}
use Rattle.c_grammar.specs.Tree as tree
use Rattle.typing_rules.specs.Scope.{Scope, Function, opened, closed}
use Rattle.typing_rules.specs.Checked.{Checked, Good, then, rule, in_block}
use Rattle.typing_rules.specs.Declarations.{Declared}
use Rattle.typing_rules.specs.Expressions.{base, declarator}
use Rattle.typing_rules.specs.Statements.{items, listed}
use Rattle.typing_rules.specs.Functions.{Parameter, parameters, types, variables, body_rule, add_function, add_body, enter, around_body, body, function_of, finished, fresh, function}
use Rattle.typing_rules.specs.Unit.{declared_name}
use Rattle.c_lang.specs.Typed as C
use Rattle.c_lang.specs.WellTyped.{are_statements, nowhere}
use Rattle.c_lang.specs.WellTyped as W
use Rattle.c_lang.specs.Numbers.{numbers_in, are_numbers}
use Rattle.typing_laws.specs.Written.{Each, AreWords, IsDeclarator, IsParam, AreItems}
use Rattle.typing_laws.proofs.Tests.{name_itself}
use Rattle.typing_laws.specs.Count.{numbered_among}
use Rattle.typing_laws.proofs.Longer.{Longer, longer}
use Rattle.typing_laws.proofs.LongerStatements.{items_longer}
use Rattle.typing_laws.proofs.Numbering.{numbers_apart}
use Rattle.typing_laws.proofs.NumberedStatements.{Counted, of_list, items_counted}
use Rattle.typing_laws.proofs.Rulings.{Rules, refused_or, rules_weaker}
use Rattle.typing_laws.proofs.Scopes.{file_names}
use Rattle.typing_laws.proofs.Later.{IsLater, later_itself, later_twice, IsWithin, within_before, within_closed, not_before}
use Rattle.typing_laws.proofs.Declared.{same_names}
use Rattle.typing_laws.proofs.Operands.{base_reached}
use Rattle.typing_laws.proofs.Variables.{IsProgress, Among}
use Rattle.typing_laws.proofs.Bodies.{Vars, Turns}
use Rattle.typing_laws.proofs.Bodies as B
use Rattle.typing_laws.proofs.StatementRules.{Matches, AreSt, listed_st}
use Rattle.typing_laws.proofs.Statements.{items_turn}
use Rattle.typing_laws.proofs.Outcomes.{Gives, gives, fails, gives_then, gives_rule, gives_step}
use Rattle.typing_laws.proofs.Parameters.{AreParameters, Own}
use Rattle.typing_laws.proofs.Files.{Nothing, IsFile, IsNext, next_twice, next_of_step, file_closed, parameters_in_block, head_given, IsResult, function_ruled, function_added}
use Rattle.typing_laws.proofs.Entering.{types_are, fewer_variables, body_begins}

-- a function that is well-typed in each whole that has what is declared behind it
pub record IsDone (t : Scope) (f : C.TypedFn) : Type 0 where
  pub declared : List Name
  pub progress : IsProgress declared (f.params ++ f.locals)
  pub result : W.is_result f.result ≡ true
  pub known : file_names t.blocks f.name ≡ Some (Function f.result (map (λ v. v.type) f.params))
  pub so_far : t.file.with_body_so_far f.name ≡ true
  pub typed : (g : W.Scope) → IsWithin (Among (f.params ++ f.locals)) t g → g.result ≡ f.result → are_statements g nowhere f.body ≡ true

pub done_later : (s t : Scope) (f : C.TypedFn) → IsLater s t → IsDone s f → IsDone t f
done_later s t f h k = record {
  declared = k.declared;
  progress = k.progress;
  result = k.result;
  known = h.names f.name (Function f.result (map (λ v. v.type) f.params)) k.known;
  so_far = h.so_far f.name k.so_far;
  typed = λ g w e. k.typed g (within_before h w) e;
}

-- a body behind its scope
record HasBody (n : ℕ) (r : Option CType) (params : List C.Variable) (s : Scope) (ss : C.Statements) (t : Scope) : Type 0 where
  next : IsNext s t
  declared : List Name
  progress : IsProgress declared (params ++ t.progress.locals)
  few : length t.progress.locals ≤ n
  typed : (g : W.Scope) → IsWithin (Among (params ++ t.progress.locals)) t g → g.result ≡ r → are_statements g nowhere ss ≡ true
  numbers : n < 2 ^ 64 → are_numbers (numbers_in ss) ≡ true

outside : (r : Option CType) → Matches (around_body r) nowhere
outside r = record { in_loop = λ h. h; in_either = λ h. h }

body_given : (b : Bool) (u : Scope) (r : Option CType) (ps : List Parameter) (is : tree.Items) → AreItems is → (s : Scope) → IsFile s → AreParameters b u ps → Gives (HasBody (numbered_among is) r (variables ps) s) (body r ps is s)
body_given b u r ps is i s h p =
    let k = body_begins b u ps s p h in
    of_items (items (around_body r) is (enter ps (opened s))) (items_turn (variables ps) (around_body r) is i (enter ps (opened s)) k.ready)
    (items_longer (variables ps) (around_body r) is i (enter ps (opened s)) k.ready) (items_counted (around_body r) is (enter ps (opened s))) k.later (ap (λ q. length q.locals) k.progress)
    (ap (λ q. q.calls) k.progress) (ap (λ q. q.switches) k.progress) (ap (λ q. q.do_whiles) k.progress)
  where
    of_items : (c : Checked (List C.Statement × Scope)) → Turns (variables ps) (AreSt (around_body r)) (enter ps (opened s)) c → Longer (numbered_among is) (enter ps (opened s)) c → Counted of_list (numbered_among is) (enter ps (opened s)) c →
        IsLater (opened s) (enter ps (opened s)) → length (enter ps (opened s)).progress.locals ≡ 0 → (enter ps (opened s)).progress.calls ≡ 0 → (enter ps (opened s)).progress.switches ≡ 0 → (enter ps (opened s)).progress.do_whiles ≡ 0 →
        Gives (HasBody (numbered_among is) r (variables ps) s) (then (then c (λ a t. Good (a, closed t))) (λ ss t. Good (listed ss, t)))
    of_items _ (B.good q m) (longer q' more) (gives o counted) l none calls switches do_whiles =
        let later = later_twice (opened s) (enter ps (opened s)) q.1 l m.later in
        gives (listed q.0, closed q.1) (record {
          next = file_closed (Vars (variables ps) q.1) s q.1 h later m.ready.fits;
          declared = q.1.progress.declared;
          progress = m.ready.progress;
          few = omega (arith, more, none);
          typed = λ g w e. listed_st (around_body r) g q.0 (m.typed g (within_closed s q.1 h.fits.some later w)) e nowhere (outside r);
          numbers = λ small. numbers_apart (of_list q.0) (numbered_among is) (enter ps (opened s)).progress q.1.progress counted calls switches do_whiles small;
        })
    of_items _ B.bad more counted l none calls switches do_whiles = fails

-- the rule of a function's body
record IsBody (d : Declared) (ps : List Parameter) (s : Scope) (r : Option CType) : Type 0 where
  new : s.file.with_body_so_far d.name ≡ false
  is : IsResult d ps s r

body_ruled : (d : Declared) (ps : List Parameter) (s : Scope) → Rules (IsBody d ps s) (body_rule d ps s)
body_ruled d ps s = refused_or (s.file.with_body_so_far d.name) _ _ (λ e. rules_weaker _ (function_ruled d ps s) (λ r k. record { new = e; is = k }))

-- a function has a body now
record HasNow (s : Scope) (x : Name) (t : Scope) : Type 0 where
  next : IsNext s t
  so_far : t.file.with_body_so_far x ≡ true

body_added : (x : Name) (s : Scope) → IsFile s → HasNow s x (add_body x s)
body_added x s h = record {
  next = record {
    later = record { layout = (later_itself s).layout; outer = refl; some = λ c. c; names = λ y e c. c; here = λ y c. c; with_body = refl; so_far = λ y c. still (same_name x y) (s.file.with_body_so_far y) c };
    file = record { fits = h.fits; alone = h.alone };
  };
  so_far = ap (λ b. cond b true (s.file.with_body_so_far x)) (name_itself x);
}
  where
    still : (b c : Bool) → c ≡ true → cond b true c ≡ true
    still true c e = refl
    still false c e = e

few_in : (vs ws : List C.Variable) (k m n : ℕ) → length vs ≤ k → k ≡ m → length ws ≤ n → length (vs ++ ws) ≤ m + n
few_in vs ws k m n h e i = let l = length-append vs ws in omega (arith, l, h, e, i)

-- a function behind its scope
pub record HasDone (x : Name) (n : ℕ) (s : Scope) (f : C.TypedFn) (t : Scope) : Type 0 where
  pub next : IsNext s t
  pub done : IsDone t f
  pub new : s.file.with_body_so_far f.name ≡ false
  pub name : f.name ≡ x
  pub few : length (f.params ++ f.locals) ≤ n
  pub numbers : n < 2 ^ 64 → are_numbers (numbers_in f.body) ≡ true

behind : (m n : ℕ) → n ≤ m + n
behind m n = omega arith

all_named : (ps : List Parameter) → Each (Own true) ps → Each (λ p. is_some p.name ≡ true) ps
all_named [] h = tt
all_named (p ∷ ps) h = (h.0.1 refl, all_named ps h.1)

pub function_given : (ws : tree.Words) (d : tree.Declarator) (ps : List tree.Param) (is : tree.Items) → AreWords ws → IsDeclarator d → Each IsParam ps → AreItems is → (s : Scope) → IsFile s →
    Gives (HasDone (declared_name d) (length ps + numbered_among is) s) (function ws d ps is s)
function_given ws d ps is iw id ip ii s h =
    let f = same_names Nothing s (fresh s) refl refl refl refl h.fits in
    let first : IsNext s (fresh s) = record { later = f.later; file = record { fits = f.fits; alone = h.alone } } in
    gives_then (base ws (fresh s)) _ (gives_step (base ws (fresh s)) (base_reached Nothing ws iw (fresh s) f.fits)) (λ b t k.
    let n1 = next_twice first (next_of_step (fresh s) t b first.file k) in
    gives_then (declarator b.type d t) _ (head_given b.type d id t n1.file) (λ head u m.
    gives_then (in_block (parameters true ps) u) _ (parameters_in_block true ps ip u m.next.file) (λ qs v n.
    gives_then (rule head.at (body_rule head qs) v) _ (gives_rule {P = λ r v'. IsBody head qs v r × (v ≡ v')} head.at v (body_rule head qs v) (body_ruled head qs v) (λ r c. (c, refl))) (λ r v' c.
    subst (λ z. Gives (HasDone (declared_name d) (length ps + numbered_among is) s) (rest head qs r z)) c.1 (done head qs r v (next_twice n1 (next_twice m.next n.next)) n.are n.as_many m.name c.0)))))
  where
    rest : Declared → List Parameter → Option CType → Scope → Checked (C.TypedFn × Scope)
    rest head qs r v = then (body r qs is (add_body head.name (add_function head.name r (types qs) v))) (λ ss. finished head.name r qs ss)

    done : (head : Declared) (qs : List Parameter) (r : Option CType) (v : Scope) {u : Scope} → IsNext s v → AreParameters true u qs → length qs ≡ length ps → head.name ≡ declared_name d → IsBody head qs v r →
        Gives (HasDone (declared_name d) (length ps + numbered_among is) s) (rest head qs r v)
    done head qs r v {u} n are many name c =
        let x = head.name in
        let a = function_added v x r (types qs) n.file c.is.agrees in
        let w = add_function x r (types qs) v in
        let e = body_added x w a.next.file in
        let z = add_body x w in
        gives_then (body r qs is z) _ (body_given true u r qs is ii z e.next.file are) (λ ss t k.
        let known = k.next.later.names x (Function r (types qs)) (e.next.later.names x (Function r (types qs)) a.named) in
        gives (function_of x r qs ss t, t) (record {
          next = next_twice n (next_twice a.next (next_twice e.next k.next));
          done = record {
            declared = k.declared;
            progress = k.progress;
            result = c.is.scalar;
            known = subst (λ ts. file_names t.blocks x ≡ Some (Function r ts)) (types_are qs (all_named qs are.own)) known;
            so_far = k.next.later.so_far x e.so_far;
            typed = k.typed;
          };
          new = not_before s v x n.later c.new;
          name = name;
          few = few_in (variables qs) t.progress.locals (length qs) (length ps) (numbered_among is) (fewer_variables qs) many k.few;
          numbers = λ small. k.numbers (lt_of_le_of_lt (behind (length ps) (numbered_among is)) small);
        }))
