-- What the code's table stands for.
use Rattle.std.specs.Prelude.{ℕ, List, map, string_bytes, ◌≡◌, refl}
use Rattle.std.specs.Coded.{Coded, code_by, coded⊎, coded_list, coded_ℕ}
use Rattle.std.proofs.Common.{◌⊎◌, inl, inr}
use Rattle.ac_sx.specs.declared.terms.TermId.{TermId}
use Rattle.ac_sx.specs.declared.terms.Node.{Node}
use Rattle.ac_sx.specs.declared.terms.Node.TheVariants as node
use Rattle.ac_sx.specs.Table.{Entry, Word, Parts}

abbrev pub entry_of : Node → Entry
entry_of (node.Atom word) = Word (string_bytes word)
entry_of (node.List ids) = Parts (map (λ (id : TermId). id.0) ids.items)

abbrev pub entries_in : List Node → List Entry
entries_in nodes = map entry_of nodes

abbrev pub to_sum : Entry → List ℕ ⊎ List ℕ
to_sum (Word word) = inl word
to_sum (Parts is) = inr is

abbrev pub from_sum : List ℕ ⊎ List ℕ → Entry
from_sum (inl word) = Word word
from_sum (inr is) = Parts is

abbrev pub summed : (e : Entry) → from_sum (to_sum e) ≡ e
summed (Word word) = refl
summed (Parts is) = refl

abbrev pub coded_entries : Coded (List Entry)
coded_entries = coded_list (code_by (List ℕ ⊎ List ℕ) (coded⊎ (coded_list coded_ℕ) (coded_list coded_ℕ)) to_sum from_sum summed)
