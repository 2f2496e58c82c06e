-- The scope where facts are known, by its layout and its globals.
use Rattle.std.proofs.Common.{◌≡◌, List, map, ap₂}
use Rattle.c_values.specs.Layout.{Layout, global_type}
use Rattle.c_values.specs.CodeValue.{global_of}
use Rattle.c_values.specs.declared.values.GlobalVar as G
use Rattle.expression_lang.specs.Sort.{Scope}
use Rattle.expression_lang.specs.CodeSort.{scope_by}

pub scope_is : (g : Scope) (l : Layout) (gs : List G.GlobalVar) → l ≡ g.layout → global_type (map global_of gs) ≡ g.globals →
    scope_by l g.names gs ≡ g
scope_is g l gs h k = ap₂ (λ m f. record { layout = m; names = g.names; globals = f }) h k
