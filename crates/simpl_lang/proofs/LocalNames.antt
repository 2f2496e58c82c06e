-- What a body sees once its locals are in scope.
use Rattle.std.proofs.Common.{◌≡◌, List, map, None, ap, ◌∙◌}
use Rattle.c_values.specs.Layout.{Layout, global_type}
use Rattle.c_values.specs.declared.values.GlobalVar as G
use Rattle.c_values.specs.CodeValue.{global_of}
use Rattle.expression_lang.specs.declared.names.Names as N
use Rattle.expression_lang.specs.declared.signatures.Binder as B
use Rattle.expression_lang.specs.Sort.{word_sort_of}
use Rattle.expression_lang.specs.Signature.{Signature, names_of, kinds_of}
use Rattle.expression_lang.specs.Sorted.{names_with}
use Rattle.expression_lang.specs.CodeSignature.{binder_of}
use Rattle.expression_lang.specs.CodeSort as C
use Rattle.simpl_lang.specs.Command.{Simpl}
use Rattle.simpl_lang.specs.Sorted.{is_sorted}

pub locals_in_scope : (l : Layout) (inside outside : N.Names) (gs : List G.GlobalVar) (bs : List B.Binder) (sigs : List Signature) (a : Simpl) →
    C.names_of inside ≡ C.names_with_all bs (C.names_of outside) → C.names_of outside ≡ C.no_names →
    is_sorted (C.scope_of l inside gs) sigs a
    ≡ is_sorted (record { layout = l; names = names_with (names_of (map binder_of bs)) (map word_sort_of (kinds_of (map binder_of bs))) (λ x. None); globals = global_type (map global_of gs) }) sigs a
locals_in_scope l inside outside gs bs sigs a e none =
    ap (λ ns. is_sorted (record { layout = l; names = ns; globals = global_type (map global_of gs) }) sigs a) (e ∙ ap (C.names_with_all bs) none)
