-- The rules take each body of a well-formed unit to that of the unit that it is abstracted to.
use Rattle.std.proofs.Common.{◌≡◌, Bool, true, List, [], ◌∷◌, map, Option, Some, None, refl, sym, subst, ap, ap₂, ◌∙◌}
use Rattle.std.proofs.lemmas.Bool.{and_parts}
use Rattle.c_values.specs.Name.{Name, same_name}
use Rattle.c_values.specs.Layout.{Layout, global_type}
use Rattle.c_values.specs.Types.{CType}
use Rattle.expression_lang.specs.Expression.{Exp}
use Rattle.expression_lang.specs.Sort.{Scalar, Kind, Scope, sort_of_kind, word_sort_of}
use Rattle.expression_lang.specs.Sorted.{scope_with, result_scalars}
use Rattle.expression_lang.specs.Signature.{Signature, signature, names_of, kinds_of}
use Rattle.monad_lang.specs.Program.{FinalFn, FinalUnit}
use Rattle.monad_lang.specs.Sorted.{scalars_given, signature_of, setting_of, is_fn_sorted, are_fns_sorted, IsWellFormed}
use Rattle.rule_word.specs.Rule.{Context}
use Rattle.rule_word.specs.Scopes.{words, result_as_list}
use Rattle.rule_word.specs.Table.{Takes}
use Rattle.rule_word.specs.Kept.{context_of}
use Rattle.rule_word.specs.Ready.{is_numbers_level}
use Rattle.rule_word.specs.UnitAbstracted.{FunctionKinds, right_signature, right_signatures, scope_for, kinds_there, body_abstracted, function_abstracted, functions_abstracted, right_context, unit_abstracted, IsFor, AreFor}
use Rattle.rule_word.specs.Units.{AreAbstractedTo, IsUnitAbstractedTo}
use Rattle.rule_word.proofs.ProgramsTaken.{program_taken}
use Rattle.rule_word.proofs.ScopesAfter.{names_after}
use Rattle.rule_word.proofs.SettingsAlike.{SignedAlike, given_alike}
use Rattle.rule_word.proofs.UnitsKeep.{fn_sorted, by_name}

-- signatures on the right
result_back : (g : FinalFn) (r : Option Kind) → (signature_of (record g { results = result_as_list r })).result ≡ r
result_back g None = refl
result_back g (Some k) = refl

one_signature : (same : Exp → Exp → Bool) (ctx : Context) (f : FinalFn) (k : FunctionKinds) → signature_of (function_abstracted same ctx f k) ≡ right_signature f k
one_signature same ctx f k =
    ap (λ (r : Option Kind). let s : Signature = record { name = f.name; level = f.level; params = k.params; result = r } in s) (result_back f k.result)

all_signatures : (same : Exp → Exp → Bool) (ctx : Context) (fs : List FinalFn) (ks : List FunctionKinds) → map signature_of (functions_abstracted same ctx fs ks) ≡ right_signatures fs ks
all_signatures same ctx (f ∷ fs) (k ∷ ks) = ap₂ (λ s ss. s ∷ ss) (one_signature same ctx f k) (all_signatures same ctx fs ks)
all_signatures same ctx [] ks = refl
all_signatures same ctx (f ∷ fs) [] = refl

pub context_back : (same : Exp → Exp → Bool) (u : FinalUnit) (ks : List FunctionKinds) → right_context u ks ≡ context_of (unit_abstracted same u ks)
context_back same u ks =
    ap (λ (ss : List Signature). let c : Context = record { layout = u.layout; globals = u.globals; functions = ss } in c) (sym (all_signatures same (right_context u ks) u.functions ks))

-- what functions take and give in words, and as words of kinds
gives_alike : (f : FinalFn) (rs : List Kind) (r : Option Kind) → map sort_of_kind rs ≡ map word_sort_of (result_as_list r) → result_scalars sort_of_kind (signature_of (record f { results = rs })).result ≡ result_scalars word_sort_of r
gives_alike f [] None h = refl
gives_alike f (k ∷ ks) (Some j) h = let e : sort_of_kind k ≡ word_sort_of j = cc in ap (λ c. c ∷ []) e
gives_alike f [] (Some j) h = absurd cc
gives_alike f (k ∷ ks) None h = absurd cc

signed_for : (ctx : Context) (fs : List FinalFn) (ks : List FunctionKinds) → AreFor ctx fs ks → (x : Name) → SignedAlike sort_of_kind word_sort_of (signature (map signature_of fs) x) (signature (right_signatures fs ks) x)
signed_for ctx [] [] h x = tt
signed_for ctx (f ∷ fs) (k ∷ ks) h x =
    by_name (signature_of f) (right_signature f k) (signature (map signature_of fs) x) (signature (right_signatures fs ks) x)
    (record { takes = h.0.words; gives = gives_alike f f.results k.result h.0.results }) (signed_for ctx fs ks h.1 x) (same_name f.name x)
signed_for ctx _ _ h x = absurd h

abbrev scope_of : Layout → (Name → Option CType) → List Name → List Scalar → Scope
scope_of l globals xs cs = scope_with xs cs (record { layout = l; names = λ x. None; globals = globals })

module _ (same : Exp → Exp → Bool) (is_same : (a b : Exp) → same a b ≡ true → a ≡ b) (u : FinalUnit) (all : List FunctionKinds) (are : AreFor (right_context u all) u.functions all) where
  abbrev ctx : Context
  ctx = right_context u all

  scopes_alike : (f : FinalFn) (k : FunctionKinds) → IsFor (right_context u all) f k → (setting_of u f).scope ≡ (words ctx (scope_for k)).scope
  scopes_alike f k h =
      ap₂ (λ xs cs. scope_of u.layout (global_type u.globals) xs cs) h.parameters h.words
      ∙ ap (λ (ns : Name → Option Scalar). let s : Scope = record { layout = u.layout; names = ns; globals = global_type u.globals } in s) (names_after word_sort_of (names_of k.params) (kinds_of k.params) [])

  body_sorted : (f : FinalFn) (k : FunctionKinds) → IsFor (right_context u all) f k → is_fn_sorted u f ≡ true → scalars_given (words ctx (scope_for k)) f.body ≡ Some (map word_sort_of (result_as_list k.result))
  body_sorted f k h i =
      sym (ap (λ s. scalars_given (record { scope = s; functions = right_signatures u.functions all; sort_for = word_sort_of }) f.body) (scopes_alike f k h))
      ∙ sym (given_alike sort_of_kind word_sort_of (map signature_of u.functions) (right_signatures u.functions all) (signed_for ctx u.functions all are) f.body (setting_of u f).scope)
      ∙ (fn_sorted u f i).0 ∙ ap (λ cs. Some cs) h.results

  taken_there : (c : Context) → right_context u all ≡ c → (fs : List FinalFn) (ks : List FunctionKinds) → AreFor (right_context u all) fs ks → are_fns_sorted u fs ≡ true → AreAbstractedTo c fs (functions_abstracted same (right_context u all) fs ks)
  taken_there c e [] [] h i = tt
  taken_there c e (f ∷ fs) (k ∷ ks) h i =
      let b = and_parts (is_fn_sorted u f) (are_fns_sorted u fs) i in (
        record {
          name = refl;
          level = refl;
          parameters = h.0.parameters;
          words = h.0.words;
          results = h.0.results;
          tree = (body_abstracted same ctx f k).tree;
          takes = subst (λ d. Takes d (scope_for k) (body_abstracted same ctx f k).tree f.body (body_abstracted same ctx f k).right (result_as_list k.result)) e
              (program_taken ctx same is_same (is_numbers_level f.level) (kinds_there k) [] (scope_for k) f.body (result_as_list k.result) (body_sorted f k h.0 b.0) h.0.binds);
        },
        taken_there c e fs ks h.1 b.1,
      )
  taken_there c e [] (k ∷ ks) h i = absurd h
  taken_there c e (f ∷ fs) [] h i = absurd h

pub unit_taken : (same : Exp → Exp → Bool) → ((a b : Exp) → same a b ≡ true → a ≡ b) → (u : FinalUnit) (ks : List FunctionKinds) → IsWellFormed u → AreFor (right_context u ks) u.functions ks → IsUnitAbstractedTo u (unit_abstracted same u ks)
unit_taken same is_same u ks formed are = record {
  layout = refl;
  globals = refl;
  functions = taken_there same is_same u ks are (context_of (unit_abstracted same u ks)) (context_back same u ks) u.functions ks are formed.functions;
}
