-- Where the bounds stay within the limits along a script, its tree passes none.
use Rattle.std.proofs.Common.{ℕ, ◌≡◌, ◌∙◌, ◌+◌, ◌<◌, ◌≤◌, ◌==◌, nat_le, nat_lt, Bool, true, false, ◌&&◌, if◌then◌else◌, List, [], ◌∷◌, length, take, drop, Option, Some, None, is_some, unwrap_or, inl, inr, map, refl, ap, ap₂, sym, subst, arith}
use Rattle.std.proofs.lemmas.Bool.{and_parts, leb-true, ltb-true, eqb-true, true≢false}
use Rattle.c_lex.specs.Lexeme.{Lexeme}
use Rattle.c_grammar.specs.declared.symbol.Production.{Production}
use Rattle.c_grammar.specs.declared.scripts.Step.{Step}
use Rattle.c_grammar.specs.declared.scripts.Step.TheVariants.{Shift, Reduce}
use Rattle.c_grammar.specs.Tree.{External}
use Rattle.c_grammar.specs.CodeBuild.{Value, Tok, OfUnit, act}
use Rattle.c_grammar.specs.CodeScript.{replay}
use Rattle.c_limits.specs.declared.limits.Limit.TheVariants as limit
use Rattle.c_limits.specs.declared.limits.role.Role.{Role}
use Rattle.c_limits.specs.declared.limits.role.Role.TheVariants as roles
use Rattle.c_limits.specs.declared.limits.bounds.Bounds.{Bounds}
use Rattle.c_limits.specs.Limits as limits
use Rattle.c_limits.specs.Limits.{Measure, nothing, past, earlier, unit, first_limit}
use Rattle.c_limits.specs.CodeRoles.{arity, role_of}
use Rattle.c_limits.specs.CodeMeasure.{Part, empty, gathered, made, pushed, reduced}
use Rattle.c_limits.specs.CodeBounds.{none, apart, behind, deepest, is_within, nested, stay_within}
use Rattle.c_limits.proofs.LimitsParts.{Settles, Agrees, ceiling, is_nested, level, nested_in, part, puts, reduces, suits, takes, up_to, whole}
use Rattle.c_limits.proofs.BoundSums.{Holds, Shallow, deepest_shallow, depths_of, faultless_drop, gather, measure, none_past, plain_drop, together, up_to_more}

at_most : (c : Bool) (x n : ℕ) → (c ≡ true → x ≤ n) → (if c then x else 0) ≤ n
at_most true x n h = h refl
at_most false x n h = omega arith

-- the depths behind a value and those that are left
record Nests (es : List ℕ) (w : Value) (vs : List Value) : Type 0 where
  depths : es ≡ depths_of (w ∷ vs)
  shallow : Shallow es
  own : is_nested w ≡ false → length (measure w).blocks ≡ 0

-- a value that isn't on the stack of depths, and has no parts that are
unnested : (b : Bounds) (ds : List ℕ) (k : ℕ) (vs : List Value) (w : Value) → Holds b ds vs → nested_in (take k vs) ≡ 0 → is_nested w ≡ false →
    (measure w).blocks ≡ (gather k vs empty).blocks → Nests ds w (drop k vs)
unnested b ds k vs w h none out same =
    let parts = ap (λ n. deepest n ds 0) (sym none) ∙ (together b ds k vs h).blocks in
    record {
      depths = ap (λ g. g.1) parts ∙ sym (ap (λ c. if c then length (measure w).blocks ∷ depths_of (drop k vs) else depths_of (drop k vs)) out);
      shallow = h.shallow;
      own = λ e. ap (λ ns. length ns) same ∙ sym (ap (λ g. g.0) parts);
    }

-- one that is put there in place of its parts
nested_once : (es : List ℕ) (d : ℕ) (w : Value) (vs : List Value) → is_nested w ≡ true → d ≡ length (measure w).blocks → es ≡ depths_of vs → d ≤ 32 → Shallow es →
    Nests (d ∷ es) w vs
nested_once es d w vs out own rest few shallow =
    record {
      depths =
          ap₂ (λ x xs. x ∷ xs) own rest
          ∙ sym (ap (λ c. if c then length (measure w).blocks ∷ depths_of vs else depths_of vs) out);
      shallow = (few, shallow);
      own = λ e. absurd (true≢false (sym out ∙ e));
    }

-- a value that may stand in an expression is put in place of its parts
in_expression : (b c : Bounds) (ds : List ℕ) (k : ℕ) (vs : List Value) (w : Value) → Holds b ds vs → level w ≡ 1 → up_to 1 (take k vs) ≡ true →
    (measure w).fault ≡ None →
    record (limits.outermost (measure w)) { fault = None } ≡ record (limits.outermost (gather k vs empty)) { fault = None } →
    length (measure w).nodes + b.nodes ≤ length (gather k vs empty).nodes + c.nodes →
    length (measure w).depth ≤ c.operators + 1 →
    c ≡ record b { nodes = c.nodes; operators = c.operators } → b.operators ≤ c.operators →
    nested_in (take k vs) ≡ 0 → is_nested w ≡ false →
    Holds c ds (w ∷ drop k vs)
in_expression b c ds k vs w h l u fault apart n d same o none out =
    let t = together b ds k vs h in
    let nests = unnested b ds k vs w h none out (ap (λ x. x.blocks) apart) in
    let up_to_3 = up_to_more 1 3 (take k vs) (omega arith) u in
    let plain = t.plain (up_to_more 1 2 (take k vs) (omega arith) u) in
    let functions = ap (λ x. x.functions) same in
    let statements = ap (λ x. x.statements) same in
    let fs = ap (λ x. length x.functions) apart in
    let ss = ap (λ x. length x.statements) apart in
    record {
      faultless = (fault, faultless_drop k vs h.faultless);
      plain = ((λ e. ss ∙ plain, nests.own), plain_drop k vs h.plain);
      functions = let few = t.functions in omega (arith, few, fs, functions);
      statements = at_most (nat_le (level w) 3) _ c.statements (λ e. let few = t.statements up_to_3 in omega (arith, few, ss, statements));
      depths = nests.depths;
      shallow = nests.shallow;
      nodes = at_most (nat_le (level w) 1) _ c.nodes (λ e. let few = t.nodes u in omega (arith, few, n));
      depth = at_most (nat_le (level w) 1) _ (c.operators + 1) (λ e. let few = t.depth u in omega (arith, few, d, o));
    }

-- and one that stands in none
in_none : (b c : Bounds) (ds es : List ℕ) (k : ℕ) (vs : List Value) (w : Value) → Holds b ds vs → nat_le 2 (level w) ≡ true → up_to (level w) (take k vs) ≡ true →
    (measure w).fault ≡ None →
    (measure w).functions ≡ (gather k vs empty).functions →
    length (measure w).statements + b.statements ≤ length (gather k vs empty).statements + c.statements →
    Nests es w (drop k vs) →
    (nat_le (level w) 2 ≡ true → length (measure w).statements ≡ 0) → b.functions ≡ c.functions →
    Holds c es (w ∷ drop k vs)
in_none b c ds es k vs w h l u fault f s nests plain functions =
    let t = together b ds k vs h in
    let out = leb-true 2 (level w) l in
    let fs = ap (λ x. length x) f in
    record {
      faultless = (fault, faultless_drop k vs h.faultless);
      plain = ((plain, nests.own), plain_drop k vs h.plain);
      functions = let few = t.functions in omega (arith, few, fs, functions);
      statements = at_most (nat_le (level w) 3) _ c.statements (λ e.
          let few = t.statements (up_to_more (level w) 3 (take k vs) (leb-true (level w) 3 e) u) in
          omega (arith, few, s));
      depths = nests.depths;
      shallow = nests.shallow;
      nodes = at_most (nat_le (level w) 1) _ c.nodes (λ e. let inside = leb-true (level w) 1 e in absurd (omega (arith, out, inside)));
      depth = at_most (nat_le (level w) 1) _ (c.operators + 1) (λ e. let inside = leb-true (level w) 1 e in absurd (omega (arith, out, inside)));
    }

-- within the limits by numbers
record Few (b : Bounds) : Type 0 where
  functions : b.functions ≤ 1024
  statements : b.statements ≤ 200
  nodes : b.nodes ≤ 128
  operators : b.operators < 32

few : (b : Bounds) → is_within b ≡ true → Few b
few b h =
    let functions = and_parts (nat_le b.functions 1024) _ h in
    let statements = and_parts (nat_le b.statements 200) _ functions.1 in
    let nodes = and_parts (nat_le b.nodes 128) (nat_lt b.operators 32) statements.1 in
    record {
      functions = leb-true b.functions 1024 functions.0;
      statements = leb-true b.statements 200 statements.0;
      nodes = leb-true b.nodes 128 nodes.0;
      operators = ltb-true b.operators 32 nodes.1;
    }

-- the value that a production of a role makes of its parts
abbrev IsMade : Role → ℕ → List Value → Value → Type 0
IsMade role k vs w = Some (part w) ≡ made whole role (gathered whole k (map part vs) empty).0

abbrev Fits : Role → ℕ → List Value → Value → Type 0
Fits role k vs w =
    ((suits role (level w) && up_to (ceiling role (level w)) (take k vs)) ≡ true)
    × (nested_in (take k vs) ≡ takes role)
    × (is_nested w ≡ puts role)

no_past : (a : ℕ) (m : Measure) → length m.depth < 32 → length m.nodes < 128 → earlier (past limit.Depth (a ∷ m.depth)) (past limit.Nodes (a ∷ m.nodes)) ≡ None
no_past a m depth nodes = ap₂ earlier (none_past limit.Depth (a ∷ m.depth) (omega (arith, depth))) (none_past limit.Nodes (a ∷ m.nodes) (omega (arith, nodes)))

abbrev measure_in : Option Part → Measure
measure_in None = nothing
measure_in (Some p) = p.measure

-- a production adds nothing
same_expression : (b : Bounds) (ds : List ℕ) (k : ℕ) (vs : List Value) (w : Value) → Holds b ds vs → measure w ≡ gather k vs empty →
    (level w == 1 && up_to 1 (take k vs)) ≡ true → nested_in (take k vs) ≡ 0 → is_nested w ≡ false → Holds b ds (w ∷ drop k vs)
same_expression b ds k vs w h m fits none out =
    let stands = and_parts (level w == 1) (up_to 1 (take k vs)) fits in
    let t = together b ds k vs h in
    let nodes = ap (λ x. length x.nodes) m in
    let depth = ap (λ x. length x.depth) m in
    let few = t.depth stands.1 in
    in_expression b b ds k vs w h (eqb-true (level w) 1 stands.0) stands.1 (ap (λ x. x.fault) m ∙ t.faultless) (ap (λ x. record (limits.outermost x) { fault = None }) m)
    (omega (arith, nodes)) (omega (arith, depth, few)) refl (omega arith) none out

same_apart : (b : Bounds) (ds es : List ℕ) (k : ℕ) (vs : List Value) (w : Value) → Holds b ds vs → limits.outermost (measure w) ≡ limits.outermost (gather k vs empty) →
    nat_le 2 (level w) ≡ true → up_to (level w) (take k vs) ≡ true → Nests es w (drop k vs) → Holds (apart b) es (w ∷ drop k vs)
same_apart b ds es k vs w h same l u nests =
    let t = together b ds k vs h in
    let statements = ap (λ x. length x.statements) same in
    in_none b (apart b) ds es k vs w h l u (ap (λ x. x.fault) same ∙ t.faultless) (ap (λ x. x.functions) same)
    (omega (arith, statements))
    nests
    (λ e. statements ∙ t.plain (up_to_more (level w) 2 (take k vs) (leb-true (level w) 2 e) u))
    refl

apart_unnested : (b : Bounds) (ds : List ℕ) (k : ℕ) (vs : List Value) (w : Value) → Holds b ds vs → limits.outermost (measure w) ≡ limits.outermost (gather k vs empty) →
    (nat_le 2 (level w) && up_to (level w) (take k vs)) ≡ true → nested_in (take k vs) ≡ 0 → is_nested w ≡ false → Holds (apart b) ds (w ∷ drop k vs)
apart_unnested b ds k vs w h same fits none out =
    let stands = and_parts (nat_le 2 (level w)) (up_to (level w) (take k vs)) fits in
    same_apart b ds ds k vs w h same stands.0 stands.1 (unnested b ds k vs w h none out (ap (λ x. x.blocks) same))

-- it makes a statement or a declarator
one_more : (b c : Bounds) (ds es : List ℕ) (k : ℕ) (vs : List Value) (w : Value) → Holds b ds vs →
    (measure w).fault ≡ (gather k vs empty).fault →
    (measure w).functions ≡ (gather k vs empty).functions →
    length (measure w).statements ≡ length (gather k vs empty).statements + 1 →
    level w ≡ 3 → up_to 3 (take k vs) ≡ true → Nests es w (drop k vs) → b.functions ≡ c.functions → c.statements ≡ b.statements + 1 →
    Holds c es (w ∷ drop k vs)
one_more b c ds es k vs w h fault functions statements at_3 u nests same more =
    in_none b c ds es k vs w h (ap (λ l. nat_le 2 l) at_3) (ap (λ l. up_to l (take k vs)) at_3 ∙ u) (fault ∙ (together b ds k vs h).faultless) functions
    (omega (arith, statements, more))
    nests
    (λ e. let inside = leb-true (level w) 2 e in absurd (omega (arith, at_3, inside)))
    same

abbrev inside : Option (List ℕ) → List ℕ
inside None = []
inside (Some ds) = ds

some_is : {ds es : List ℕ} → Some ds ≡ Some es → ds ≡ es
some_is e = ap inside e

kept : (c : Bool) (ds es : List ℕ) → (if c then Some ds else None) ≡ Some es → (c ≡ true) × (ds ≡ es)
kept true ds es e = (refl, some_is e)
kept false ds es e = absurd cc

-- the depths behind a function are those before its body
behind_body : (ds : List ℕ) → (deepest 1 ds 0).1 ≡ drop 1 ds
behind_body [] = refl
behind_body (d ∷ ds) = refl

settled : (role : Role) (b : Bounds) (ds es : List ℕ) (k : ℕ) (vs : List Value) (w : Value) → Holds b ds vs → Few b → Few (behind role b) →
    nested role ds ≡ Some es → IsMade role k vs w → Fits role k vs w → Holds (behind role b) es (w ∷ drop k vs)
settled roles.Nothing b ds es k vs w h before after to is_made fits = absurd cc
settled roles.Leaf b ds es k vs w h before after to is_made fits =
    let p = (gathered whole k (map part vs) empty).0 in
    let a = unwrap_or p.first 0 in
    let stands = and_parts (level w == 1) (up_to 0 (take k vs)) fits.0 in
    let none = (together b ds k vs h).tokens stands.1 in
    let m = ap measure_in is_made in
    let nodes = ap (λ x. length x.nodes) m in
    let depth = ap (λ x. length x.depth) m in
    subst (λ xs. Holds (behind roles.Leaf b) xs (w ∷ drop k vs)) (some_is to)
    (in_expression b (behind roles.Leaf b) ds k vs w h (eqb-true (level w) 1 stands.0) (up_to_more 0 1 (take k vs) (omega arith) stands.1)
    (ap (λ x. x.fault) m ∙ no_past a p.measure (omega (arith, none.1)) (omega (arith, none.0)))
    (ap (λ x. record (limits.outermost x) { fault = None }) m)
    (omega (arith, nodes)) (omega (arith, depth, none.1)) refl (omega arith) fits.1 fits.2)
settled roles.Node b ds es k vs w h before after to is_made fits =
    let p = (gathered whole k (map part vs) empty).0 in
    let a = unwrap_or p.first 0 in
    let stands = and_parts (level w == 1) (up_to 1 (take k vs)) fits.0 in
    let t = together b ds k vs h in
    let nodes_few = t.nodes stands.1 in
    let depth_few = t.depth stands.1 in
    let most_nodes = after.nodes in
    let most_operators = after.operators in
    let m = ap measure_in is_made in
    let nodes = ap (λ x. length x.nodes) m in
    let depth = ap (λ x. length x.depth) m in
    subst (λ xs. Holds (behind roles.Node b) xs (w ∷ drop k vs)) (some_is to)
    (in_expression b (behind roles.Node b) ds k vs w h (eqb-true (level w) 1 stands.0) stands.1
    (ap (λ x. x.fault) m ∙ no_past a p.measure (omega (arith, depth_few, most_operators)) (omega (arith, nodes_few, most_nodes)))
    (ap (λ x. record (limits.outermost x) { fault = None }) m)
    (omega (arith, nodes)) (omega (arith, depth, depth_few)) refl (omega arith) fits.1 fits.2)
settled roles.Specifier b ds es k vs w h before after to is_made fits =
    subst (λ xs. Holds b xs (w ∷ drop k vs)) (some_is to) (same_expression b ds k vs w h (ap measure_in is_made) fits.0 fits.1 fits.2)
settled roles.TypePart b ds es k vs w h before after to is_made fits =
    subst (λ xs. Holds b xs (w ∷ drop k vs)) (some_is to) (same_expression b ds k vs w h (ap measure_in is_made) fits.0 fits.1 fits.2)
settled roles.Part b ds es k vs w h before after to is_made fits =
    subst (λ xs. Holds (apart b) xs (w ∷ drop k vs)) (some_is to)
    (apart_unnested b ds k vs w h (ap (λ o. limits.outermost (measure_in o)) is_made) fits.0 fits.1 fits.2)
settled roles.Simple b ds es k vs w h before after to is_made fits =
    subst (λ xs. Holds (apart b) xs (w ∷ drop k vs)) (some_is to)
    (apart_unnested b ds k vs w h (ap (λ o. limits.outermost (measure_in o)) is_made) fits.0 fits.1 fits.2)
settled roles.Outermost b ds es k vs w h before after to is_made fits =
    subst (λ xs. Holds (apart b) xs (w ∷ drop k vs)) (some_is to)
    (apart_unnested b ds k vs w h (ap (λ o. limits.outermost (measure_in o)) is_made) fits.0 fits.1 fits.2)
settled roles.Statement b ds es k vs w h before after to is_made fits =
    let stands = and_parts (level w == 3) (up_to 2 (take k vs)) fits.0 in
    let m = ap measure_in is_made in
    let statements = ap (λ x. length x.statements) m in
    let blocks = ap (λ x. length x.blocks) m in
    let parts = ap (λ n. deepest n ds 0) (sym fits.1) ∙ (together b ds k vs h).blocks in
    let none = ap (λ g. g.0) parts in
    subst (λ xs. Holds (behind roles.Statement b) xs (w ∷ drop k vs)) (some_is to)
    (one_more b (behind roles.Statement b) ds (1 ∷ ds) k vs w h (ap (λ x. x.fault) m) (ap (λ x. x.functions) m)
    (omega (arith, statements))
    (eqb-true (level w) 3 stands.0) (up_to_more 2 3 (take k vs) (omega arith) stands.1)
    (nested_once ds 1 w (drop k vs) fits.2 (omega (arith, blocks, none)) (ap (λ g. g.1) parts) (omega arith) h.shallow)
    refl refl)
settled (roles.Compound n) b ds es k vs w h before after to is_made fits =
    let stands = and_parts (level w == 3) (up_to 3 (take k vs)) fits.0 in
    let m = ap measure_in is_made in
    let statements = ap (λ x. length x.statements) m in
    let blocks = ap (λ x. length x.blocks) m in
    let g = deepest n ds 0 in
    let parts = ap (λ i. deepest i ds 0) (sym fits.1) ∙ (together b ds k vs h).blocks in
    let own = ap (λ x. x.0) parts in
    let shallow = deepest_shallow n ds 0 h.shallow (omega arith) in
    let taken = kept (nat_lt g.0 32) ((g.0 + 1) ∷ g.1) es to in
    let few = ltb-true g.0 32 taken.0 in
    subst (λ xs. Holds (behind (roles.Compound n) b) xs (w ∷ drop k vs)) taken.1
    (one_more b (behind (roles.Compound n) b) ds ((g.0 + 1) ∷ g.1) k vs w h (ap (λ x. x.fault) m) (ap (λ x. x.functions) m)
    (omega (arith, statements))
    (eqb-true (level w) 3 stands.0) stands.1
    (nested_once g.1 (g.0 + 1) w (drop k vs) fits.2 (omega (arith, blocks, own)) (ap (λ x. x.1) parts) (omega (arith, few)) shallow.1)
    refl refl)
settled (roles.Sequence n) b ds es k vs w h before after to is_made fits =
    let stands = and_parts (level w == 3) (up_to 3 (take k vs)) fits.0 in
    let at_3 = eqb-true (level w) 3 stands.0 in
    let m = ap measure_in is_made in
    let g = deepest n ds 0 in
    let parts = ap (λ i. deepest i ds 0) (sym fits.1) ∙ (together b ds k vs h).blocks in
    let shallow = deepest_shallow n ds 0 h.shallow (omega arith) in
    subst (λ xs. Holds (apart b) xs (w ∷ drop k vs)) (some_is to)
    (same_apart b ds (g.0 ∷ g.1) k vs w h (ap limits.outermost m) (ap (λ l. nat_le 2 l) at_3) (ap (λ l. up_to l (take k vs)) at_3 ∙ stands.1)
    (nested_once g.1 g.0 w (drop k vs) fits.2 (ap (λ x. x.0) parts ∙ sym (ap (λ x. length x.blocks) m)) (ap (λ x. x.1) parts) shallow.0 shallow.1))
settled roles.Local b ds es k vs w h before after to is_made fits =
    let stands = and_parts (level w == 3) (up_to 3 (take k vs)) fits.0 in
    let m = ap measure_in is_made in
    let statements = ap (λ x. length x.statements) m in
    subst (λ xs. Holds (behind roles.Local b) xs (w ∷ drop k vs)) (some_is to)
    (one_more b (behind roles.Local b) ds ds k vs w h (ap (λ x. x.fault) m) (ap (λ x. x.functions) m)
    (omega (arith, statements))
    (eqb-true (level w) 3 stands.0) stands.1 (unnested b ds k vs w h fits.1 fits.2 (ap (λ x. x.blocks) m)) refl refl)
settled roles.Function b ds es k vs w h before after to is_made fits =
    let p = (gathered whole k (map part vs) empty).0 in
    let stands = and_parts (level w == 4) (up_to 3 (take k vs)) fits.0 in
    let at_4 = eqb-true (level w) 4 stands.0 in
    let t = together b ds k vs h in
    let m = ap measure_in is_made in
    let functions = ap (λ x. length x.functions) m in
    let blocks = ap (λ x. length x.blocks) m in
    let all = t.functions in
    let statements = t.statements stands.1 in
    let parts = ap (λ i. deepest i ds 0) (sym fits.1) ∙ t.blocks in
    let shallow = deepest_shallow 1 ds 0 h.shallow (omega arith) in
    let own = ap (λ x. x.0) parts in
    let most_blocks = shallow.0 in
    let most_statements = before.statements in
    let out = λ (l : ℕ) (e : nat_le (level w) l ≡ true). leb-true (level w) l e in
    let rest = sym (behind_body ds) in
    subst (λ xs. Holds (behind roles.Function b) xs (w ∷ drop k vs)) (some_is to)
    (record {
      faultless = (
        ap (λ x. x.fault) m
            ∙ ap₂ earlier (none_past limit.Statements p.measure.statements (omega (arith, statements, most_statements)))
            (ap₂ earlier (none_past limit.Blocks p.measure.blocks (omega (arith, own, most_blocks))) t.faultless),
        faultless_drop k vs h.faultless,
      );
      plain = ((λ e. let inside = out 2 e in absurd (omega (arith, at_4, inside)), λ e. blocks), plain_drop k vs h.plain);
      functions = omega (arith, functions, all);
      statements = at_most (nat_le (level w) 3) _ 0 (λ e. let inside = out 3 e in absurd (omega (arith, at_4, inside)));
      depths =
          rest
          ∙ ap (λ x. x.1) parts
          ∙ sym (ap (λ c. if c then length (measure w).blocks ∷ depths_of (drop k vs) else depths_of (drop k vs)) fits.2);
      shallow = subst Shallow (behind_body ds) shallow.1;
      nodes = at_most (nat_le (level w) 1) _ 0 (λ e. let inside = out 1 e in absurd (omega (arith, at_4, inside)));
      depth = at_most (nat_le (level w) 1) _ 1 (λ e. let inside = out 1 e in absurd (omega (arith, at_4, inside)));
    })

-- tokens are taken away
without : (b : Bounds) (ds : List ℕ) (k : ℕ) (vs : List Value) → Holds b ds vs → up_to 0 (take k vs) ≡ true → nested_in (take k vs) ≡ 0 → Holds b ds (drop k vs)
without b ds k vs h u none =
    let t = together b ds k vs h in
    let up_to_1 = up_to_more 0 1 (take k vs) (omega arith) u in
    let up_to_3 = up_to_more 0 3 (take k vs) (omega arith) u in
    record {
      faultless = faultless_drop k vs h.faultless;
      plain = plain_drop k vs h.plain;
      functions = let few = t.functions in omega (arith, few);
      statements = let few = t.statements up_to_3 in omega (arith, few);
      depths = ap (λ g. g.1) (ap (λ n. deepest n ds 0) (sym none) ∙ t.blocks);
      shallow = h.shallow;
      nodes = let few = t.nodes up_to_1 in omega (arith, few);
      depth = let few = t.depth up_to_1 in omega (arith, few);
    }

made_there : (role : Role) (l : ℕ) (p : Part) → suits role l ≡ true → is_some (made whole role p) ≡ true
made_there roles.Nothing l p h = absurd cc
made_there role l p h = refl

abbrev first_of : List Part → Option Part
first_of [] = None
first_of (p ∷ ps) = Some p

first_put : (o : Option Part) (ps qs : List Part) (p : Part) → is_some o ≡ true → pushed o ps ≡ p ∷ qs → Some p ≡ o
first_put None ps qs p h e = absurd cc
first_put (Some q) ps qs p h e = sym (ap first_of e)

-- the values behind a production
behind_role : (role : Role) (b : Bounds) (ds es : List ℕ) (k : ℕ) (vs ws : List Value) → Holds b ds vs → Few b → Few (behind role b) → nested role ds ≡ Some es →
    (let g = gathered whole k (map part vs) empty in pushed (made whole role g.0) g.1) ≡ map part ws →
    Settles role k vs ws → Holds (behind role b) es ws
behind_role role b ds es k vs ws h before after to is (inl away) =
    let same = some_is (ap (λ r. nested r ds) (sym away.0) ∙ to) in
    subst (λ r. Holds (behind r b) es ws) (sym away.0)
    (subst (λ xs. Holds b xs ws) same (subst (λ us. Holds b ds us) (sym away.1) (without b ds k vs h away.2 away.3)))
behind_role role b ds es k vs [] h before after to is (inr put) = absurd put
behind_role role b ds es k vs (w ∷ ws) h before after to is (inr put) =
    let g = gathered whole k (map part vs) empty in
    let suited = (and_parts (suits role (level w)) (up_to (ceiling role (level w)) (take k vs)) put.1).0 in
    let there = made_there role (level w) g.0 suited in
    subst (λ us. Holds (behind role b) es (w ∷ us)) (sym put.0)
    (settled role b ds es k vs w h before after to (first_put (made whole role g.0) g.1 (map part ws) (part w) there is) (put.1, put.2, put.3))

reduced_holds : (p : Production) (b : Bounds) (ds es : List ℕ) (vs ws : List Value) → act p vs ≡ Some ws → Holds b ds vs → Few b → Few (behind (role_of p) b) →
    nested (role_of p) ds ≡ Some es → Holds (behind (role_of p) b) es ws
unfolding reduced
reduced_holds p b ds es vs ws e h before after to =
    let agrees = subst (λ o. Agrees p vs o) e (reduces p vs) in
    behind_role (role_of p) b ds es (arity p) vs ws h before after to agrees.0 agrees.1

with_token : (b : Bounds) (ds : List ℕ) (t : Lexeme) (vs : List Value) → Holds b ds vs → Holds b ds (Tok t ∷ vs)
with_token b ds t vs h =
    record {
      faultless = (refl, h.faultless);
      plain = ((λ e. refl, λ e. refl), h.plain);
      functions = let few = h.functions in omega (arith, few);
      statements = let few = h.statements in omega (arith, few);
      depths = h.depths;
      shallow = h.shallow;
      nodes = let few = h.nodes in omega (arith, few);
      depth = let few = h.depth in omega (arith, few);
    }

-- where the steps give values, and the bounds stay within the limits, bounds within the limits hold these
replayed : (ss : List Step) (ts : List Lexeme) (vs ws : List Value) (b : Bounds) (ds : List ℕ) → replay ss ts vs ≡ Some ws → stay_within b ds ss ≡ true →
    Holds b ds vs → Few b → (c : Bounds) × (es : List ℕ) × Few c × Holds c es ws
unfolding replay stay_within
replayed [] ts vs ws b ds e within h f = (b, ds, f, subst (λ us. Holds b ds us) (ap (λ o. unwrap_or o []) e) h)
replayed (Shift ∷ ss) [] vs ws b ds e within h f = absurd cc
replayed (Shift ∷ ss) (t ∷ ts) vs ws b ds e within h f = replayed ss ts (Tok t ∷ vs) ws b ds e within (with_token b ds t vs h) f
replayed (Reduce p ∷ ss) ts vs ws b ds e within h f =
    let c = behind (role_of p) b in
    let both = and_parts (is_within c) _ within in
    let after = few c both.0 in
    (elim (act p vs) as (λ o. act p vs ≡ o → (elim o [ None ↦ None | Some us ↦ replay ss ts us ]) ≡ Some ws → (d : Bounds) × (es : List ℕ) × Few d × Holds d es ws) [
      | None ↦ λ i k. absurd cc
      | Some us ↦ λ i k.
          (elim (nested (role_of p) ds) as (λ o. nested (role_of p) ds ≡ o → (elim o [ None ↦ false | Some es ↦ stay_within c es ss ]) ≡ true → (d : Bounds) × (es : List ℕ) × Few d × Holds d es ws) [
            | None ↦ λ j l. absurd cc
            | Some es ↦ λ j l. replayed ss ts us ws c es k l (reduced_holds p b ds es vs us i h f after j) after
          ]) refl both.1
    ]) refl e

at_first : Holds none [] []
at_first =
    record {
      faultless = tt;
      plain = tt;
      functions = omega arith;
      statements = omega arith;
      depths = refl;
      shallow = tt;
      nodes = omega arith;
      depth = omega arith;
    }

-- a text that the bounds hold passes no limit
pub within_limits : (steps : List Step) (tokens : List Lexeme) (exts : List External) → replay steps tokens [] ≡ Some (OfUnit exts ∷ []) → stay_within none [] steps ≡ true →
    None ≡ first_limit exts
within_limits steps tokens exts e within =
    let end = replayed steps tokens [] (OfUnit exts ∷ []) none [] e within at_first (few none refl) in
    let m = unit exts in
    let most_functions = end.2.functions in
    let functions = end.3.functions in
    sym (ap₂ earlier (none_past limit.Functions m.functions (omega (arith, functions, most_functions))) end.3.faultless.0)
