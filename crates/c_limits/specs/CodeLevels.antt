-- The nodes of an expression and the statements of a function's body in preorder, each with its level and the offset of its first
-- token. A node is a level below the one that it is a part of, and the declarator of a local is on none, which is level 0.
use Rattle.std.specs.Prelude.{ℕ, suc, List, [], ◌∷◌, ◌++◌, Option, Some, None, nat_eq, if◌then◌else◌}
use Rattle.c_grammar.specs.Tree as tree
use Rattle.c_grammar.specs.Tree.{Exp, TypeName, Words, Word, Members, Declarators, Declarator, Dimensions, Enumerators, Enumerator, Init, Local, Start, Stmt, Items, Groups}
use Rattle.c_limits.specs.FirstToken.{first_of, first_of_simple, first_of_declarator}

-- the first node on a level
abbrev pub first_on : ℕ → List (ℕ × ℕ) → Option ℕ
first_on l [] = None
first_on l (n ∷ ns) = if nat_eq n.0 l then Some n.1 else first_on l ns

abbrev mutual
  pub nodes_of : ℕ → Exp → List (ℕ × ℕ)
  nodes_of l (tree.Variable a n) = (l, a) ∷ []
  nodes_of l (tree.Number a value decimal unsigned longs) = (l, a) ∷ []
  nodes_of l (tree.Character a value) = (l, a) ∷ []
  nodes_of l (tree.Parenthesis a e) = (l, a) ∷ nodes_of (suc l) e
  nodes_of l (tree.Index e i) = (l, first_of e) ∷ nodes_of (suc l) e ++ nodes_of (suc l) i
  nodes_of l (tree.Member e n) = (l, first_of e) ∷ nodes_of (suc l) e
  nodes_of l (tree.PointerMember e n) = (l, first_of e) ∷ nodes_of (suc l) e
  nodes_of l (tree.Unary a o e) = (l, a) ∷ nodes_of (suc l) e
  nodes_of l (tree.SizeofValue a e) = (l, a) ∷ nodes_of (suc l) e
  nodes_of l (tree.SizeofType a t) = (l, a) ∷ in_type (suc l) t
  nodes_of l (tree.Cast a t e) = (l, a) ∷ in_type (suc l) t ++ nodes_of (suc l) e
  nodes_of l (tree.Binary o x y) = (l, first_of x) ∷ nodes_of (suc l) x ++ nodes_of (suc l) y
  nodes_of l (tree.Conditional c x y) = (l, first_of c) ∷ nodes_of (suc l) c ++ (nodes_of (suc l) x ++ nodes_of (suc l) y)

  pub in_type : ℕ → TypeName → List (ℕ × ℕ)
  in_type l (tree.Typed ws stars) = in_words l ws

  pub in_words : ℕ → Words → List (ℕ × ℕ)
  in_words l tree.NoWords = []
  in_words l (tree.MoreWords w ws) = in_word l w ++ in_words l ws

  pub in_word : ℕ → Word → List (ℕ × ℕ)
  in_word l (tree.Reserved a k) = []
  in_word l (tree.Named a n) = []
  in_word l (tree.StructTag a n) = []
  in_word l (tree.StructBody a n ms) = in_members l ms
  in_word l (tree.EnumTag a n) = []
  in_word l (tree.EnumBody a n es) = in_enumerators l es

  pub in_members : ℕ → Members → List (ℕ × ℕ)
  in_members l (tree.LastMember ws ds) = in_words l ws ++ in_declarators l ds
  in_members l (tree.MoreMembers ws ds ms) = in_words l ws ++ (in_declarators l ds ++ in_members l ms)

  pub in_declarators : ℕ → Declarators → List (ℕ × ℕ)
  in_declarators l (tree.LastDeclarator d) = in_declarator l d
  in_declarators l (tree.MoreDeclarators d ds) = in_declarator l d ++ in_declarators l ds

  pub in_declarator : ℕ → Declarator → List (ℕ × ℕ)
  in_declarator l (tree.Declare stars a n dims) = in_dimensions l dims

  pub in_dimensions : ℕ → Dimensions → List (ℕ × ℕ)
  in_dimensions l tree.NoDimensions = []
  in_dimensions l (tree.MoreDimensions e dims) = nodes_of l e ++ in_dimensions l dims

  pub in_enumerators : ℕ → Enumerators → List (ℕ × ℕ)
  in_enumerators l (tree.LastEnumerator e) = in_enumerator l e
  in_enumerators l (tree.MoreEnumerators e es) = in_enumerator l e ++ in_enumerators l es

  pub in_enumerator : ℕ → Enumerator → List (ℕ × ℕ)
  in_enumerator l (tree.Implicit a n) = []
  in_enumerator l (tree.Explicit a n e) = nodes_of l e

abbrev pub in_inits : List Init → List (ℕ × ℕ)
in_inits [] = []
in_inits (tree.Initialized d r ∷ is) = (0, first_of_declarator d) ∷ in_inits is

abbrev pub in_local : Local → List (ℕ × ℕ)
in_local (tree.Locals ws is) = in_inits is

abbrev pub in_start : Start → List (ℕ × ℕ)
in_start tree.NoStart = []
in_start (tree.StartLocal d) = in_local d
in_start (tree.StartSimple s) = []

abbrev mutual
  pub statements_of : ℕ → Stmt → List (ℕ × ℕ)
  statements_of l (tree.Empty a) = (l, a) ∷ []
  statements_of l (tree.Block a is) = (l, a) ∷ in_items (suc l) is
  statements_of l (tree.Simply s) = (l, first_of_simple s) ∷ []
  statements_of l (tree.Break a) = (l, a) ∷ []
  statements_of l (tree.Continue a) = (l, a) ∷ []
  statements_of l (tree.Return a r) = (l, a) ∷ []
  statements_of l (tree.If a e s) = (l, a) ∷ statements_of (suc l) s
  statements_of l (tree.IfElse a e s t) = (l, a) ∷ statements_of (suc l) s ++ statements_of (suc l) t
  statements_of l (tree.While a e s) = (l, a) ∷ statements_of (suc l) s
  statements_of l (tree.For a h c u s) = (l, a) ∷ in_start h ++ statements_of (suc l) s
  statements_of l (tree.Do a s e) = (l, a) ∷ statements_of (suc l) s
  statements_of l (tree.Switch a e gs) = (l, a) ∷ in_groups (suc l) gs

  pub in_items : ℕ → Items → List (ℕ × ℕ)
  in_items l tree.NoItems = []
  in_items l (tree.LocalItem d is) = in_local d ++ in_items l is
  in_items l (tree.StatementItem s is) = statements_of l s ++ in_items l is

  pub in_groups : ℕ → Groups → List (ℕ × ℕ)
  in_groups l tree.NoGroups = []
  in_groups l (tree.MoreGroups la las s is gs) = statements_of l s ++ (in_items l is ++ in_groups l gs)
