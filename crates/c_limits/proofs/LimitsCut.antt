-- A measure whose lists are cut behind the first offset past their limit tells as much as the whole one.
use Rattle.std.proofs.Common.{ℕ, ◌≡◌, ◌∙◌, List, [], ◌∷◌, Option, Some, None, zero, suc, map, unwrap_or, refl, ap, arith}
use Rattle.std.specs.Option.{option_map}
use Rattle.std.proofs.lemmas.List.{append-nil}
use Rattle.c_lex.proofs.TokenSpelling.{take_within}
use Rattle.c_grammar.specs.declared.symbol.Production.{Production}
use Rattle.c_limits.specs.declared.limits.Limit.TheVariants as limit
use Rattle.c_limits.specs.declared.limits.role.Role.{Role}
use Rattle.c_limits.specs.declared.limits.role.Role.TheVariants as roles
use Rattle.c_limits.specs.Limits.{Measure, Fault, beside, nothing, leftmost, node, statement, local, function, earlier}
use Rattle.c_limits.specs.CodeRoles.{arity, role_of}
use Rattle.c_limits.specs.CodeMeasure.{Part, cut, cut_part, joined, gathered, made, pushed, empty, reduced}
use Rattle.c_limits.proofs.LimitsLists.{take_append, take_leftmost, get_take}
use Rattle.c_limits.proofs.LimitsParts.{whole}

cut_beside : (m n : Measure) → cut (beside (cut m) (cut n)) ≡ cut (beside m n)
cut_beside m n =
    λ i. record {
      functions = take_append 1025 1025 1025 m.functions n.functions (omega arith) (omega arith) i;
      statements = take_append 201 201 201 m.statements n.statements (omega arith) (omega arith) i;
      blocks = take_leftmost 33 33 33 m.blocks n.blocks (omega arith) (omega arith) i;
      nodes = take_append 129 129 129 m.nodes n.nodes (omega arith) (omega arith) i;
      depth = take_leftmost 33 33 33 m.depth n.depth (omega arith) (omega arith) i;
      fault = earlier m.fault n.fault;
    }

leftmost_alone : (xs : List ℕ) → leftmost xs [] ≡ xs
leftmost_alone [] = refl
leftmost_alone (x ∷ xs) = ap (λ l. x ∷ l) (append-nil xs)

earlier_alone : (f : Option Fault) → earlier f None ≡ f
earlier_alone None = refl
earlier_alone (Some f) = refl

-- nothing beside a part changes nothing
pub cut_alone : (m : Measure) → cut (beside m nothing) ≡ cut m
cut_alone m =
    ap cut (λ i. record {
      functions = append-nil m.functions i;
      statements = append-nil m.statements i;
      blocks = leftmost_alone m.blocks i;
      nodes = append-nil m.nodes i;
      depth = leftmost_alone m.depth i;
      fault = earlier_alone m.fault i;
    })

cut_node : (a : ℕ) (m : Measure) → cut (node a (cut m)) ≡ cut (node a m)
cut_node a m =
    λ i. record {
      functions = take_within 1025 1025 m.functions (omega arith) i;
      statements = take_within 201 201 m.statements (omega arith) i;
      blocks = take_within 33 33 m.blocks (omega arith) i;
      nodes = a ∷ take_within 128 129 m.nodes (omega arith) i;
      depth = a ∷ take_within 32 33 m.depth (omega arith) i;
      fault =
          earlier (option_map (λ b. (limit.Depth, b)) (get_take 31 33 m.depth (omega arith) i))
          (option_map (λ b. (limit.Nodes, b)) (get_take 127 129 m.nodes (omega arith) i));
    }

cut_statement : (a : ℕ) (m : Measure) → cut (statement a (cut m)) ≡ cut (statement a m)
cut_statement a m =
    λ i. record {
      functions = take_within 1025 1025 m.functions (omega arith) i;
      statements = a ∷ take_within 200 201 m.statements (omega arith) i;
      blocks = a ∷ take_within 32 33 m.blocks (omega arith) i;
      nodes = [];
      depth = [];
      fault = m.fault;
    }

cut_local : (a : ℕ) (m : Measure) → cut (local a (cut m)) ≡ cut (local a m)
cut_local a m =
    λ i. record {
      functions = take_within 1025 1025 m.functions (omega arith) i;
      statements = a ∷ take_within 200 201 m.statements (omega arith) i;
      blocks = take_within 33 33 m.blocks (omega arith) i;
      nodes = [];
      depth = [];
      fault = m.fault;
    }

cut_function : (a : ℕ) (m : Measure) → cut (function a (cut m)) ≡ cut (function a m)
cut_function a m =
    λ i. record {
      functions = a ∷ [];
      statements = [];
      blocks = [];
      nodes = [];
      depth = [];
      fault =
          earlier (option_map (λ b. (limit.Statements, b)) (get_take 200 201 m.statements (omega arith) i))
          (earlier (option_map (λ b. (limit.Blocks, b)) (get_take 32 33 m.blocks (omega arith) i)) m.fault);
    }

cut_joined : (p q : Part) → joined cut (cut_part p) (cut_part q) ≡ cut_part (joined whole p q)
cut_joined p q = λ i. record { first = (joined whole p q).first; measure = cut_beside p.measure q.measure i }

cut_made : (r : Role) (p : Part) → made cut r (cut_part p) ≡ option_map cut_part (made whole r p)
cut_made roles.Leaf p = ap (λ m. Some (record { first = p.first; measure = m })) (cut_node (unwrap_or p.first 0) p.measure)
cut_made roles.Node p = ap (λ m. Some (record { first = p.first; measure = m })) (cut_node (unwrap_or p.first 0) p.measure)
cut_made roles.Statement p = ap (λ m. Some (record { first = None; measure = m })) (cut_statement (unwrap_or p.first 0) p.measure)
cut_made (roles.Compound n) p = ap (λ m. Some (record { first = None; measure = m })) (cut_statement (unwrap_or p.first 0) p.measure)
cut_made roles.Local p = ap (λ m. Some (record { first = None; measure = m })) (cut_local (unwrap_or p.first 0) p.measure)
cut_made roles.Function p = ap (λ m. Some (record { first = None; measure = m })) (cut_function (unwrap_or p.first 0) p.measure)
cut_made _ _ = refl

abbrev cut_pair : Part × List Part → Part × List Part
cut_pair g = (cut_part g.0, map cut_part g.1)

cut_gathered : (n : ℕ) (ps : List Part) (sum : Part) → gathered cut n (map cut_part ps) (cut_part sum) ≡ cut_pair (gathered whole n ps sum)
cut_gathered zero ps sum = refl
cut_gathered (suc n) [] sum = refl
cut_gathered (suc n) (p ∷ ps) sum = ap (λ s. gathered cut n (map cut_part ps) s) (cut_joined p sum) ∙ cut_gathered n ps (joined whole p sum)

cut_pushed : (made_part : Option Part) (ps : List Part) → pushed (option_map cut_part made_part) (map cut_part ps) ≡ map cut_part (pushed made_part ps)
cut_pushed None ps = refl
cut_pushed (Some p) ps = refl

pub cut_reduced : (p : Production) (ps : List Part) → reduced cut p (map cut_part ps) ≡ map cut_part (reduced whole p ps)
unfolding reduced
cut_reduced p ps =
    let g = gathered whole (arity p) ps empty in
    ap (λ h. pushed (made cut (role_of p) h.0) h.1) (cut_gathered (arity p) ps empty)
    ∙ ap (λ q. pushed q (map cut_part g.1)) (cut_made (role_of p) g.0)
    ∙ cut_pushed (made whole (role_of p) g.0) g.1

-- what has been cut stays when it is cut again

cut_twice : (m : Measure) → cut (cut m) ≡ cut m
cut_twice m =
    λ i. record {
      functions = take_within 1025 1025 m.functions (omega arith) i;
      statements = take_within 201 201 m.statements (omega arith) i;
      blocks = take_within 33 33 m.blocks (omega arith) i;
      nodes = take_within 129 129 m.nodes (omega arith) i;
      depth = take_within 33 33 m.depth (omega arith) i;
      fault = m.fault;
    }

pub is_cut_gathered : (n : ℕ) (ps : List Part) (sum : Part) → cut_part sum ≡ sum → cut_part (gathered cut n ps sum).0 ≡ (gathered cut n ps sum).0
is_cut_gathered zero ps sum h = h
is_cut_gathered (suc n) [] sum h = h
is_cut_gathered (suc n) (p ∷ ps) sum h = is_cut_gathered n ps (joined cut p sum) (λ i. record { first = (joined cut p sum).first; measure = cut_twice (beside p.measure sum.measure) i })
