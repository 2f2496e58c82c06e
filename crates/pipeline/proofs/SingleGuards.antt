-- No condition of a generated expression is itself a list of conditions.
use Rattle.std.proofs.Common.{Bool, true, false, cond, List, [], ◌∷◌, ◌++◌, refl}
use Rattle.c_values.specs.Types.{Target, IntType, Integer, is_signed}
use Rattle.c_values.specs.Layout.{Layout}
use Rattle.expression_lang.specs.Expression as E
use Rattle.expression_lang.specs.Sort.{Numbers}
use Rattle.simpl_lang.specs.Command.{Condition}
use Rattle.c_lang.specs.Typed as C
use Rattle.generation.specs.Guards.{reading, number, under, bounds, accesses, guards, place_guards, index_guards, fits, divides, computes, shifts}
use Rattle.pipeline.proofs.CommandReady.{AreSingle}

pub single_under : (c : E.Exp) (gs : List Condition) → AreSingle (under c gs)
single_under c [] = tt
single_under c (d ∷ ds) = (refl, single_under c ds)

both : (gs hs : List Condition) → AreSingle gs → AreSingle hs → AreSingle (gs ++ hs)
both [] hs h i = i
both (c ∷ cs) hs h i = (h.0, both cs hs h.1 i)

either : (b : Bool) (gs hs : List Condition) → AreSingle gs → AreSingle hs → AreSingle (cond b gs hs)
either true gs hs h i = h
either false gs hs h i = i

single_fits : (t : Target) (i : IntType) (e : E.Exp) → AreSingle (fits t Numbers i e)
single_fits t i e = either (is_signed i) _ _ (refl, tt) (refl, tt)

single_divides : (t : Target) (i : IntType) (a b : E.Exp) → AreSingle (divides t i a b)
single_divides t i a b = (refl, either (is_signed i) _ [] (refl, tt) tt)

single_computes : (t : Target) (i : IntType) (op : C.Arithmetic) (a b : E.Exp) → AreSingle (computes t Numbers i op a b)
single_computes t i C.Add a b = single_fits t i _
single_computes t i C.Subtract a b = single_fits t i _
single_computes t i C.Multiply a b = single_fits t i _
single_computes t i C.Divide a b = single_divides t i a b
single_computes t i C.Remainder a b = single_divides t i a b

single_shifts : (t : Target) (i : IntType) (d : C.Direction) (a n : E.Exp) → AreSingle (shifts t i d a n)
single_shifts t i C.Left a n = (refl, either (is_signed i) _ [] (refl, (refl, tt)) tt)
single_shifts t i C.Right a n = (refl, tt)

module _ (l : Layout) where
  single_accesses : (p : C.Place) → AreSingle (accesses l Numbers p)
  single_accesses (C.Through t p path u) = (refl, (refl, tt))
  single_accesses (C.InGlobal x path u) = tt

  single_bounds : (path : C.Path) → AreSingle (bounds l path)
  single_bounds C.Here = tt
  single_bounds (C.Member n path) = single_bounds path
  single_bounds (C.Element n e path) = (refl, single_bounds path)

  mutual
    pub single_guards : (e : C.Expr) → AreSingle (guards l Numbers e)
    single_guards (C.Value p) = both (place_guards l Numbers p) (accesses l Numbers p) (single_place p) (single_accesses p)
    single_guards (C.Convert t a) = single_guards a
    single_guards (C.ConvertNull t a) = single_guards a
    single_guards (C.Negate i a) =
        both (guards l Numbers a) _ (single_guards a) (single_fits l.target i (E.Negate (number (Integer i) (reading l a).value)))
    single_guards (C.Complement i a) = single_guards a
    single_guards (C.Compute op i a b) =
        both (guards l Numbers a ++ guards l Numbers b) _ (both (guards l Numbers a) (guards l Numbers b) (single_guards a)
        (single_guards b)) (single_computes l.target i op (reading l a).value (reading l b).value)
    single_guards (C.Combine op i a b) = both (guards l Numbers a) (guards l Numbers b) (single_guards a) (single_guards b)
    single_guards (C.Shift d i a b) =
        both (guards l Numbers a ++ guards l Numbers b) _ (both (guards l Numbers a) (guards l Numbers b) (single_guards a)
        (single_guards b)) (single_shifts l.target i d (reading l a).value (number (C.type_of b) (reading l b).value))
    single_guards (C.Compare r i a b) = both (guards l Numbers a) (guards l Numbers b) (single_guards a) (single_guards b)
    single_guards (C.Equate q t a b) = both (guards l Numbers a) (guards l Numbers b) (single_guards a) (single_guards b)
    single_guards (C.Not a) = single_guards a
    single_guards (C.And a b) =
        both (guards l Numbers a) _ (single_guards a) (single_under (reading l a).truth (guards l Numbers b))
    single_guards (C.Or a b) =
        both (guards l Numbers a) _ (single_guards a) (single_under (E.Not (reading l a).truth) (guards l Numbers b))
    single_guards (C.Choose t c a b) =
        both (guards l Numbers c ++ under (reading l c).truth (guards l Numbers a)) _
        (both (guards l Numbers c) _ (single_guards c) (single_under (reading l c).truth (guards l Numbers a)))
        (single_under (E.Not (reading l c).truth) (guards l Numbers b))
    single_guards (C.Move s t p a) = both (guards l Numbers p) (guards l Numbers a) (single_guards p) (single_guards a)
    single_guards (C.MoveBy t a p) = both (guards l Numbers a) (guards l Numbers p) (single_guards a) (single_guards p)
    single_guards (C.Address p t) = single_place p
    single_guards (C.Decay p t) = single_place p
    single_guards _ = tt

    single_place : (p : C.Place) → AreSingle (place_guards l Numbers p)
    single_place (C.Through t p path u) =
        both (guards l Numbers p ++ index_guards l Numbers path) (bounds l path)
        (both (guards l Numbers p) (index_guards l Numbers path) (single_guards p) (single_indices path)) (single_bounds path)
    single_place (C.InGlobal x path u) =
        both (index_guards l Numbers path) (bounds l path) (single_indices path) (single_bounds path)

    single_indices : (path : C.Path) → AreSingle (index_guards l Numbers path)
    single_indices C.Here = tt
    single_indices (C.Member n path) = single_indices path
    single_indices (C.Element n e path) =
        both (guards l Numbers e) (index_guards l Numbers path) (single_guards e) (single_indices path)
