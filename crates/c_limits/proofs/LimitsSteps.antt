-- The steps of the code, against those of the stack of measures.
use Rattle.std.proofs.Common.{ℕ, ◌≡◌, ◌∙◌, ◌<◌, ◌≤◌, ◌+◌, ◌-◌, ◌++◌, List, [], ◌∷◌, Option, zero, suc, map, reverse, take, refl, ap, sym, arith}
use Rattle.std.proofs.lemmas.List.{map_push, reverse-append}
use Rattle.std.specs.Option.{option_map}
use Rattle.c_lex.specs.Lexeme.{Lexeme}
use Rattle.c_grammar.specs.declared.symbol.Production.{Production}
use Rattle.c_grammar.specs.declared.scripts.Step.{Step}
use Rattle.c_grammar.specs.declared.scripts.Step.TheVariants.{Shift, Reduce}
use Rattle.c_limits.specs.declared.limits.Limit.TheVariants as limit
use Rattle.c_limits.specs.declared.limits.part.Part as code
use Rattle.c_limits.specs.Limits.{Fault, Measure, node, past, earlier}
use Rattle.c_limits.specs.CodeRoles.{arity, role_of}
use Rattle.c_limits.specs.CodeMeasure.{Part, part_of, cut, cut_part, joined, gathered, made, pushed, empty, token, reduced, advanced}
use Rattle.c_limits.proofs.LimitsLists.{get_take}
use Rattle.c_limits.proofs.LimitsCut.{is_cut_gathered}

-- the fault of a node is seen on what is kept of its lists
pub node_is : (a : ℕ) (m : Measure) (nodes depth : List ℕ) (fault : Option Fault) → cut m ≡ m → nodes ≡ take 129 (a ∷ m.nodes) → depth ≡ take 33 (a ∷ m.depth) → fault ≡ earlier (past limit.Depth depth) (past limit.Nodes nodes) → record m { nodes = nodes; depth = depth; fault = fault } ≡ cut (node a m)
node_is a m nodes depth fault h n d f =
    let seen =
    f
    ∙ ap (λ xs. earlier (past limit.Depth xs) (past limit.Nodes nodes)) d
    ∙ ap (λ xs. earlier (past limit.Depth (take 33 (a ∷ m.depth))) (past limit.Nodes xs)) n
    ∙ ap (λ o. earlier (option_map (λ b. (limit.Depth, b)) o) (past limit.Nodes (take 129 (a ∷ m.nodes)))) (get_take 32 33 (a ∷ m.depth) (omega arith))
    ∙ ap (λ o. earlier (past limit.Depth (a ∷ m.depth)) (option_map (λ b. (limit.Nodes, b)) o)) (get_take 128 129 (a ∷ m.nodes) (omega arith)) in
    λ i. record {
      functions = (sym h i).functions;
      statements = (sym h i).statements;
      blocks = (sym h i).blocks;
      nodes = n i;
      depth = d i;
      fault = seen i;
    }

-- the stack after a push, the last part first
pub stack_pushed : (xs ys : List code.Part) (x : code.Part) → ys ≡ xs ++ x ∷ [] → reverse (map part_of ys) ≡ part_of x ∷ reverse (map part_of xs)
stack_pushed xs ys x h = ap (λ l. reverse (map part_of l)) h ∙ ap (λ l. reverse l) (map_push part_of xs x) ∙ reverse-append (map part_of xs) (part_of x ∷ [])

-- a part is taken from the stack
pub gathered_more : (count i : ℕ) (xs ys : List code.Part) (x sum next : code.Part) → i < count → xs ≡ ys ++ x ∷ [] → part_of next ≡ joined cut (part_of x) (part_of sum) → gathered cut (count - (i + 1)) (reverse (map part_of ys)) (part_of next) ≡ gathered cut (count - i) (reverse (map part_of xs)) (part_of sum)
gathered_more count i xs ys x sum next h popped made_next =
    let left : count - i ≡ suc (count - (i + 1)) = omega arith in
    ap (λ p. gathered cut (count - (i + 1)) (reverse (map part_of ys)) p) made_next
    ∙ sym (ap (λ n. gathered cut n (reverse (map part_of xs)) (part_of sum)) left ∙ ap (λ ps. gathered cut (suc (count - (i + 1))) ps (part_of sum)) (stack_pushed ys xs x popped))

-- all parts have been taken
pub gathered_all : (count i : ℕ) (ps : List Part) (sum : Part) → count ≤ i → gathered cut (count - i) ps sum ≡ (sum, ps)
gathered_all count i ps sum h = let none : count - i ≡ 0 = omega arith in ap (λ n. gathered cut n ps sum) none

-- no part is left
pub gathered_none : (n : ℕ) (sum : Part) → gathered cut n [] sum ≡ (sum, [])
gathered_none zero sum = refl
gathered_none (suc n) sum = refl

pub reduced_is : (p : Production) (ps rest : List Part) (sum : Part) (new : Option Part) → (sum, rest) ≡ gathered cut (arity p) ps empty → (cut_part sum ≡ sum → new ≡ made cut (role_of p) sum) → pushed new rest ≡ reduced cut p ps
unfolding reduced
reduced_is p ps rest sum new h m =
    let taken : sum ≡ (gathered cut (arity p) ps empty).0 = ap (λ g. g.0) h in
    let is_cut = ap cut_part taken ∙ is_cut_gathered (arity p) ps empty refl ∙ sym taken in
    ap (λ o. pushed o rest) (m is_cut) ∙ ap (λ g. pushed (made cut (role_of p) g.0) g.1) h

pub no_token : (s : Step) (ts : List Lexeme) (ps : List Part) → s ≡ Shift → ts ≡ [] → (ts, ps) ≡ advanced cut s (ts, ps)
unfolding advanced
no_token s ts ps e h = ap (λ l. (l, ps)) h ∙ sym (ap (λ x. advanced cut x (ts, ps)) e ∙ ap (λ l. advanced cut Shift (l, ps)) h)

pub a_token : (s : Step) (t : Lexeme) (ts rest : List Lexeme) (ps new : List Part) → s ≡ Shift → ts ≡ t ∷ rest → new ≡ token t.from ∷ ps → (rest, new) ≡ advanced cut s (ts, ps)
unfolding advanced
a_token s t ts rest ps new e h n = ap (λ l. (rest, l)) n ∙ sym (ap (λ x. advanced cut x (ts, ps)) e ∙ ap (λ l. advanced cut Shift (l, ps)) h)

pub a_production : (s : Step) (p : Production) (ts : List Lexeme) (ps new : List Part) → s ≡ Reduce p → new ≡ reduced cut p ps → (ts, new) ≡ advanced cut s (ts, ps)
unfolding advanced
a_production s p ts ps new e n = ap (λ l. (ts, l)) n ∙ sym (ap (λ x. advanced cut x (ts, ps)) e)
