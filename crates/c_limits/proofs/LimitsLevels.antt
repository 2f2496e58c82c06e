-- What a measure lists are the nodes and the statements in preorder, and the first of them on each level.
use Rattle.std.proofs.Common.{ℕ, ◌≡◌, ◌∙◌, ◌+◌, ◌++◌, Bool, true, false, cond, List, [], ◌∷◌, Option, Some, None, zero, suc, map, refl, ap, sym, subst, arith}
use Rattle.std.proofs.lemmas.List.{map-append, append-nil}
use Rattle.std.proofs.lemmas.Bool.Decides.{nat_tests}
use Rattle.std.specs.List.{slice_get}
use Rattle.std.specs.Prelude.{nat_eq}
use Rattle.c_grammar.specs.Tree as tree
use Rattle.c_grammar.specs.Tree.{Exp, TypeName, Words, Word, Members, Declarators, Declarator, Dimensions, Enumerators, Enumerator}
use Rattle.c_limits.specs.FirstToken.{first_of}
use Rattle.c_limits.specs.Limits as limits
use Rattle.c_limits.specs.Limits.{Measure, leftmost, nothing, beside, all, node}
use Rattle.c_limits.specs.CodeMeasure.{or_else}
use Rattle.c_limits.specs.CodeLevels.{first_on, nodes_of, in_type, in_words, in_word, in_members, in_declarators, in_declarator, in_dimensions, in_enumerators, in_enumerator}

abbrev pub offset : ℕ × ℕ → ℕ
offset n = n.1

get_append_nil : (xs : List ℕ) (k : ℕ) → slice_get xs k ≡ or_else (slice_get xs k) None
get_append_nil [] k = refl
get_append_nil (x ∷ xs) zero = refl
get_append_nil (x ∷ xs) (suc k) = get_append_nil xs k

pub get_leftmost : (xs ys : List ℕ) (k : ℕ) → slice_get (leftmost xs ys) k ≡ or_else (slice_get xs k) (slice_get ys k)
get_leftmost [] ys k = refl
get_leftmost (x ∷ xs) ys zero = refl
get_leftmost (x ∷ xs) [] (suc k) = ap (λ l. slice_get l k) (append-nil xs) ∙ get_append_nil xs k
get_leftmost (x ∷ xs) (y ∷ ys) (suc k) = get_leftmost xs ys k

or_else_test : (b : Bool) (a : ℕ) (o p : Option ℕ) → cond b (Some a) (or_else o p) ≡ or_else (cond b (Some a) o) p
or_else_test true a o p = refl
or_else_test false a o p = refl

first_on_append : (l : ℕ) (xs ys : List (ℕ × ℕ)) → first_on l (xs ++ ys) ≡ or_else (first_on l xs) (first_on l ys)
first_on_append l [] ys = refl
first_on_append l (x ∷ xs) ys = ap (λ o. cond (nat_eq x.0 l) (Some x.1) o) (first_on_append l xs ys) ∙ or_else_test (nat_eq x.0 l) x.1 (first_on l xs) (first_on l ys)

first_on_same : (l m a : ℕ) (xs : List (ℕ × ℕ)) → m ≡ l → first_on l ((m, a) ∷ xs) ≡ Some a
first_on_same l m a xs h = grind (arith, nat_tests)

pub first_on_other : (l m n a : ℕ) (xs : List (ℕ × ℕ)) → n ≡ suc (m + l) → first_on n ((m, a) ∷ xs) ≡ first_on n xs
first_on_other l m n a xs h = grind (arith, nat_tests)

-- offsets in preorder, and of the first node on each level, the levels counted from one past the number
pub record Rows (l : ℕ) (offsets levels : List ℕ) (xs : List (ℕ × ℕ)) : Type 0 where
  pub preorder : offsets ≡ map offset xs
  pub first : (k : ℕ) → slice_get levels k ≡ first_on (suc (l + k)) xs

pub rows_none : (l : ℕ) → Rows l [] [] []
rows_none l = record { preorder = refl; first = λ k. refl }

pub first_below : (l a : ℕ) (levels : List ℕ) (xs : List (ℕ × ℕ)) (f : (k : ℕ) → slice_get levels k ≡ first_on (suc (suc l + k)) xs) (k : ℕ) → slice_get (a ∷ levels) k ≡ first_on (suc (l + k)) ((suc l, a) ∷ xs)
first_below l a levels xs f zero = sym (first_on_same (suc (l + 0)) (suc l) a xs (omega arith))
first_below l a levels xs f (suc k) =
    let deeper : suc (suc l + k) ≡ suc (l + suc k) = omega arith in
    f k ∙ ap (λ n. first_on n xs) deeper ∙ sym (first_on_other k (suc l) (suc (l + suc k)) a xs (omega arith))

pub rows_node : {l : ℕ} {offsets levels : List ℕ} {xs : List (ℕ × ℕ)} (a : ℕ) → Rows (suc l) offsets levels xs → Rows l (a ∷ offsets) (a ∷ levels) ((suc l, a) ∷ xs)
rows_node {l = l} {levels = levels} {xs = xs} a r = record { preorder = ap (λ o. a ∷ o) r.preorder; first = first_below l a levels xs r.first }

pub rows_beside : {l : ℕ} {offsets levels more deeper : List ℕ} {xs ys : List (ℕ × ℕ)} → Rows l offsets levels xs → Rows l more deeper ys → Rows l (offsets ++ more) (leftmost levels deeper) (xs ++ ys)
rows_beside {l = l} {levels = levels} {more = more} {deeper = deeper} {xs = xs} {ys = ys} r s =
    record {
      preorder = ap (λ o. o ++ more) r.preorder ∙ ap (λ o. map offset xs ++ o) s.preorder ∙ sym (map-append offset xs ys);
      first = λ k.
          get_leftmost levels deeper k
          ∙ ap (λ o. or_else o (slice_get deeper k)) (r.first k)
          ∙ ap (λ o. or_else (first_on (suc (l + k)) xs) o) (s.first k)
          ∙ sym (first_on_append (suc (l + k)) xs ys);
    }

-- the measure of a part of an expression: its nodes, and no statement
pub record Counts (l : ℕ) (m : Measure) (xs : List (ℕ × ℕ)) : Type 0 where
  pub nodes : Rows l m.nodes m.depth xs
  pub no_statements : m.statements ≡ []
  pub no_blocks : m.blocks ≡ []

none : (l : ℕ) → Counts l nothing []
none l = record { nodes = rows_none l; no_statements = refl; no_blocks = refl }

above : {l : ℕ} {m : Measure} {xs : List (ℕ × ℕ)} (a : ℕ) → Counts (suc l) m xs → Counts l (node a m) ((suc l, a) ∷ xs)
above a c = record { nodes = rows_node a c.nodes; no_statements = c.no_statements; no_blocks = c.no_blocks }

one : {l : ℕ} {m : Measure} {xs : List (ℕ × ℕ)} → Counts l m xs → Counts l (all (m ∷ [])) xs
one {l = l} {m = m} {xs = xs} c =
    record {
      nodes = subst (λ v. Rows l (all (m ∷ [])).nodes (all (m ∷ [])).depth v) (append-nil xs) (rows_beside c.nodes (rows_none l));
      no_statements = append-nil m.statements ∙ c.no_statements;
      no_blocks = ap (λ b. leftmost b []) c.no_blocks;
    }

more : {l : ℕ} {m n : Measure} {xs ys : List (ℕ × ℕ)} → Counts l m xs → Counts l n ys → Counts l (beside m n) (xs ++ ys)
more {m = m} {n = n} c d =
    record {
      nodes = rows_beside c.nodes d.nodes;
      no_statements = ap (λ s. s ++ n.statements) c.no_statements ∙ d.no_statements;
      no_blocks = ap (λ b. leftmost b n.blocks) c.no_blocks ∙ d.no_blocks;
    }

mutual
  pub exp_counts : (l : ℕ) (e : Exp) → Counts l (limits.exp e) (nodes_of (suc l) e)
  exp_counts l (tree.Variable a n) = above a (none (suc l))
  exp_counts l (tree.Number a value decimal unsigned longs) = above a (none (suc l))
  exp_counts l (tree.Character a value) = above a (none (suc l))
  exp_counts l (tree.Parenthesis a e) = above a (one (exp_counts (suc l) e))
  exp_counts l (tree.Index e i) = above (first_of e) (more (exp_counts (suc l) e) (one (exp_counts (suc l) i)))
  exp_counts l (tree.Member e n) = above (first_of e) (one (exp_counts (suc l) e))
  exp_counts l (tree.PointerMember e n) = above (first_of e) (one (exp_counts (suc l) e))
  exp_counts l (tree.Unary a o e) = above a (one (exp_counts (suc l) e))
  exp_counts l (tree.SizeofValue a e) = above a (one (exp_counts (suc l) e))
  exp_counts l (tree.SizeofType a t) = above a (one (type_counts (suc l) t))
  exp_counts l (tree.Cast a t e) = above a (more (type_counts (suc l) t) (one (exp_counts (suc l) e)))
  exp_counts l (tree.Binary o x y) = above (first_of x) (more (exp_counts (suc l) x) (one (exp_counts (suc l) y)))
  exp_counts l (tree.Conditional c x y) = above (first_of c) (more (exp_counts (suc l) c) (more (exp_counts (suc l) x) (one (exp_counts (suc l) y))))

  type_counts : (l : ℕ) (t : TypeName) → Counts l (limits.type t) (in_type (suc l) t)
  type_counts l (tree.Typed ws stars) = one (words_counts l ws)

  pub words_counts : (l : ℕ) (ws : Words) → Counts l (limits.words ws) (in_words (suc l) ws)
  words_counts l tree.NoWords = none l
  words_counts l (tree.MoreWords w ws) = more (word_counts l w) (one (words_counts l ws))

  word_counts : (l : ℕ) (w : Word) → Counts l (limits.word w) (in_word (suc l) w)
  word_counts l (tree.Reserved a k) = none l
  word_counts l (tree.Named a n) = none l
  word_counts l (tree.StructTag a n) = none l
  word_counts l (tree.StructBody a n ms) = one (members_counts l ms)
  word_counts l (tree.EnumTag a n) = none l
  word_counts l (tree.EnumBody a n es) = one (enumerators_counts l es)

  members_counts : (l : ℕ) (ms : Members) → Counts l (limits.members ms) (in_members (suc l) ms)
  members_counts l (tree.LastMember ws ds) = more (words_counts l ws) (one (declarators_counts l ds))
  members_counts l (tree.MoreMembers ws ds ms) = more (words_counts l ws) (more (declarators_counts l ds) (one (members_counts l ms)))

  declarators_counts : (l : ℕ) (ds : Declarators) → Counts l (limits.declarators ds) (in_declarators (suc l) ds)
  declarators_counts l (tree.LastDeclarator d) = one (declarator_counts l d)
  declarators_counts l (tree.MoreDeclarators d ds) = more (declarator_counts l d) (one (declarators_counts l ds))

  pub declarator_counts : (l : ℕ) (d : Declarator) → Counts l (limits.declarator d) (in_declarator (suc l) d)
  declarator_counts l (tree.Declare stars a n dims) = one (dimensions_counts l dims)

  dimensions_counts : (l : ℕ) (dims : Dimensions) → Counts l (limits.dimensions dims) (in_dimensions (suc l) dims)
  dimensions_counts l tree.NoDimensions = none l
  dimensions_counts l (tree.MoreDimensions e dims) = more (exp_counts l e) (one (dimensions_counts l dims))

  enumerators_counts : (l : ℕ) (es : Enumerators) → Counts l (limits.enumerators es) (in_enumerators (suc l) es)
  enumerators_counts l (tree.LastEnumerator e) = one (enumerator_counts l e)
  enumerators_counts l (tree.MoreEnumerators e es) = more (enumerator_counts l e) (one (enumerators_counts l es))

  enumerator_counts : (l : ℕ) (e : Enumerator) → Counts l (limits.enumerator e) (in_enumerator (suc l) e)
  enumerator_counts l (tree.Implicit a n) = none l
  enumerator_counts l (tree.Explicit a n e) = one (exp_counts l e)

pub nodes_in_preorder : (e : Exp) → (limits.exp e).nodes ≡ map (λ n. n.1) (nodes_of 1 e)
nodes_in_preorder e = (exp_counts 0 e).nodes.preorder

pub first_nodes : (e : Exp) (k : ℕ) → slice_get (limits.exp e).depth k ≡ first_on (k + 1) (nodes_of 1 e)
first_nodes e k = let level : suc (0 + k) ≡ k + 1 = omega arith in (exp_counts 0 e).nodes.first k ∙ ap (λ n. first_on n (nodes_of 1 e)) level
