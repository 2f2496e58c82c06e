-- Which commands are well-sorted, and which units are well-formed.
use Rattle.std.specs.Prelude.{◌≡◌, ◌==◌, Bool, true, false, ◌&&◌, List, [], ◌∷◌, map, Option, Some, None}
use Rattle.c_values.specs.Name.{Name, same_name, are_distinct}
use Rattle.c_values.specs.Layout.{IsLayout, global_type}
use Rattle.expression_lang.specs.Sort.{Level, Bytes, Words, Numbers, Scalar, Of, Kind, WordKind, NatKind, IntKind, BoolKind, Scope, is_truth, word_sort_of, are_kinds}
use Rattle.expression_lang.specs.Signature.{Binder, Signature, names_of, kinds_of, signature}
use Rattle.expression_lang.specs.Sorted.{names_with, program_sort, scalars_of, typed_place, global_place, fits_place, call_scalars}
use Rattle.program_sorts.specs.Sorts.{is_scalar_of}
use Rattle.simpl_lang.specs.Command.{Condition, Simpl, Skip, Throw, Set, SetGlobal, Store, Pick, Seq, Cond, Guard, Catch, While, Call, SimplFn, SimplUnit, kind_of}
use Rattle.simpl_lang.specs.Exec.{result_local}

abbrev pub are_conditions : Scope → List Condition → Bool
are_conditions g [] = true
are_conditions g (c ∷ cs) = is_truth (program_sort g c.exp) && are_conditions g cs

abbrev pub is_local : Option Scalar → Bool
is_local None = false
is_local (Some s) = true

abbrev pub fits_target : Scope → Option Name → Option (List Scalar) → Bool
fits_target g None (Some []) = true
fits_target g (Some x) (Some (s ∷ [])) = is_scalar_of (g.names x) (Some (Of s))
fits_target g _ _ = false

-- each expression has the sort that its place asks
abbrev pub is_sorted : Scope → List Signature → Simpl → Bool
is_sorted g sigs Skip = true
is_sorted g sigs Throw = true
is_sorted g sigs (Set x e) = is_scalar_of (g.names x) (program_sort g e)
is_sorted g sigs (SetGlobal x path e) = fits_place (global_place g (g.globals x) path) (program_sort g e)
is_sorted g sigs (Store t p path e) = fits_place (typed_place g t p path) (program_sort g e)
is_sorted g sigs (Pick x) = is_local (g.names x)
is_sorted g sigs (Seq a b) = is_sorted g sigs a && is_sorted g sigs b
is_sorted g sigs (Cond e a b) = is_truth (program_sort g e) && is_sorted g sigs a && is_sorted g sigs b
is_sorted g sigs (Guard c a) = is_truth (program_sort g c.exp) && is_sorted g sigs a
is_sorted g sigs (Catch a b) = is_sorted g sigs a && is_sorted g sigs b
is_sorted g sigs (While cs e a) = are_conditions g cs && is_truth (program_sort g e) && is_sorted g sigs a
is_sorted g sigs (Call x f es) = fits_target g x (call_scalars word_sort_of (signature sigs f) (scalars_of g es))

-- the locals, with words at their kinds
abbrev pub scope_among : SimplUnit → List Binder → Scope
scope_among u bs =
    record { layout = u.layout; names = names_with (names_of bs) (map word_sort_of (kinds_of bs)) (λ x. None); globals = global_type u.globals }

abbrev pub scope_of : SimplUnit → SimplFn → Scope
scope_of u f = scope_among u f.locals

abbrev pub are_fns_sorted : SimplUnit → List SimplFn → Bool
are_fns_sorted u [] = true
are_fns_sorted u (f ∷ fs) = are_kinds (kinds_of f.locals) && are_distinct (names_of f.locals) && is_sorted (scope_of u f) u.signatures f.body && are_fns_sorted u fs

abbrev pub same_kind : Kind → Kind → Bool
same_kind (WordKind m) (WordKind n) = m == n
same_kind (NatKind m) (NatKind n) = m == n
same_kind (IntKind m) (IntKind n) = m == n
same_kind BoolKind BoolKind = true
same_kind _ _ = false

abbrev pub same_level : Level → Level → Bool
same_level Bytes Bytes = true
same_level Words Words = true
same_level Numbers Numbers = true
same_level _ _ = false

-- the parameters are the first locals
abbrev pub come_first : List Binder → List Binder → Bool
come_first [] bs = true
come_first (p ∷ ps) (b ∷ bs) = same_name p.name b.name && same_kind p.kind b.kind && come_first ps bs
come_first (p ∷ ps) [] = false

abbrev pub is_kind_of : Kind → Option Kind → Bool
is_kind_of k (Some j) = same_kind k j
is_kind_of k None = false

-- the local that holds the result has its kind
abbrev pub holds_result : Option Kind → List Binder → Bool
holds_result None bs = true
holds_result (Some k) bs = is_kind_of k (kind_of bs result_local)

-- the signatures are of the functions, in their order
abbrev pub are_signed : List SimplFn → List Signature → Bool
are_signed [] [] = true
are_signed (f ∷ fs) (s ∷ ss) = same_name f.name s.name && same_level f.level s.level && come_first s.params f.locals && holds_result s.result f.locals && are_signed fs ss
are_signed _ _ = false

-- names are distinct, each body is well-sorted, and each call is of a function of the unit
pub record IsWellFormed (u : SimplUnit) : Type 0 where
  pub layout : IsLayout u.layout
  pub globals : are_distinct (map (λ v. v.name) u.globals) ≡ true
  pub names : are_distinct (map (λ f. f.name) u.functions) ≡ true
  pub signatures : are_signed u.functions u.signatures ≡ true
  pub functions : are_fns_sorted u u.functions ≡ true
