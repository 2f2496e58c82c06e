-- Claims about calls, from the computed end.
use Rattle.std.proofs.Common.{◌≡◌, ℕ, Bool, true, false, List, [], length, Option, None, refl, subst}
use Rattle.correspondence.specs.Outcome.{Limit, Outcome, Done, Failed, Stopped}
use Rattle.c_values.specs.Name.{Name}
use Rattle.c_values.specs.Types.{CType}
use Rattle.c_values.specs.Value.{Value, nothing}
use Rattle.c_memory.specs.Heap.{read_heap, OnBytes}
use Rattle.expression_lang.specs.Sort.{Level}
use Rattle.expression_lang.specs.GuardKind.{GuardKind}
use Rattle.expression_lang.specs.Machine.{Returned}
use Rattle.generation.specs.Generate.{generated}
use Rattle.worked_rows.specs.Claims.{Case, no_memory, invocation, ends, simpl_ends, bytes_at, heap_bytes, Returns, Leaves, Holds, Undefined, Stops, ReturnsInC, StopsInC}
use Rattle.worked_rows.proofs.CEnd.{c_end, c_ends}
use Rattle.worked_rows.proofs.SimplEnd as S
use Rattle.worked_rows.proofs.SimplEnd.{simpl_end}

-- the computed ends of a case
abbrev pub end_of : (Name → Level) → Case → Outcome Returned GuardKind
end_of levels c = c_end c.unit levels c.fill c.turns c.depth (invocation c)

abbrev pub simpl_end_of : (Name → Level) → Case → Outcome Returned GuardKind
simpl_end_of levels c = simpl_end (generated c.unit levels) c.fill c.turns c.depth (invocation c)

abbrev pub is_done : {A F : Type 0} → Outcome A F → Bool
is_done (Done a) = true
is_done (Failed f) = false
is_done (Stopped w) = false

-- what is returned; of another end, nothing in no memory
abbrev pub returned : Outcome Returned GuardKind → Returned
returned (Done r) = r
returned _ = record { result = None; state = record { heap = OnBytes no_memory; globals = λ x. nothing } }

as_done : (o : Outcome Returned GuardKind) → is_done o ≡ true → o ≡ Done (returned o)
as_done (Done r) h = refl
as_done (Failed f) h = absurd (let e : false ≡ true = h in cc)
as_done (Stopped w) h = absurd (let e : false ≡ true = h in cc)

module _ (levels : Name → Level) (c : Case) where
  has_end : (o : Outcome Returned GuardKind) → end_of levels c ≡ o → ends levels c o
  has_end o h = subst (ends levels c) h (c_ends c.unit levels c.fill c.turns c.depth (invocation c))

  has_simpl_end : (o : Outcome Returned GuardKind) → simpl_end_of levels c ≡ o → simpl_ends levels c o
  has_simpl_end o h = subst (simpl_ends levels c) h (S.simpl_ends (generated c.unit levels) c.fill c.turns c.depth (invocation c))

  pub returns : (v : Option Value) → is_done (end_of levels c) ≡ true → (returned (end_of levels c)).result ≡ v →
      is_done (simpl_end_of levels c) ≡ true → (returned (simpl_end_of levels c)).result ≡ v → Returns levels c v
  returns v d e d' e' = record {
    returned = returned (end_of levels c);
    is_end = has_end _ (as_done _ d);
    is_result = e;
    in_simpl = returned (simpl_end_of levels c);
    is_simpl_end = has_simpl_end _ (as_done _ d');
    is_simpl_result = e';
  }

  pub leaves : (v : Option Value) (a : ℕ) (bs : List ℕ) → is_done (end_of levels c) ≡ true → (returned (end_of levels c)).result ≡ v →
      bytes_at (heap_bytes (returned (end_of levels c)).state.heap) a (length bs) ≡ bs → is_done (simpl_end_of levels c) ≡ true →
      (returned (simpl_end_of levels c)).result ≡ v → bytes_at (heap_bytes (returned (simpl_end_of levels c)).state.heap) a (length bs) ≡ bs → Leaves levels c v a bs
  leaves v a bs d e b d' e' b' = record {
    returned = returned (end_of levels c);
    is_end = has_end _ (as_done _ d);
    is_result = e;
    has_bytes = b;
    in_simpl = returned (simpl_end_of levels c);
    is_simpl_end = has_simpl_end _ (as_done _ d');
    is_simpl_result = e';
    has_simpl_bytes = b';
  }

  pub holds : (t : CType) (a : ℕ) (v : Value) → is_done (end_of levels c) ≡ true → read_heap c.unit.layout (returned (end_of levels c)).state.heap t a [] ≡ v →
      is_done (simpl_end_of levels c) ≡ true → read_heap c.unit.layout (returned (simpl_end_of levels c)).state.heap t a [] ≡ v → Holds levels c t a v
  holds t a v d e d' e' = record {
    returned = returned (end_of levels c);
    is_end = has_end _ (as_done _ d);
    has_value = e;
    in_simpl = returned (simpl_end_of levels c);
    is_simpl_end = has_simpl_end _ (as_done _ d');
    has_simpl_value = e';
  }

  pub undefined : (k : GuardKind) → end_of levels c ≡ Failed k → simpl_end_of levels c ≡ Failed k → Undefined levels c k
  undefined k h h' = record { is_end = has_end _ h; is_simpl_end = has_simpl_end _ h' }

  pub stops : (w : Limit) → end_of levels c ≡ Stopped w → simpl_end_of levels c ≡ Stopped w → Stops levels c w
  stops w h h' = record { is_end = has_end _ h; is_simpl_end = has_simpl_end _ h' }

  pub returns_in_c : (v : Option Value) → is_done (end_of levels c) ≡ true → (returned (end_of levels c)).result ≡ v → ReturnsInC levels c v
  returns_in_c v d e = record { returned = returned (end_of levels c); is_end = has_end _ (as_done _ d); is_result = e }

  pub stops_in_c : (w : Limit) → end_of levels c ≡ Stopped w → StopsInC levels c w
  stops_in_c w h = record { is_end = has_end _ h }
