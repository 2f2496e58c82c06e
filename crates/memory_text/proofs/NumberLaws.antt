-- Natural numbers below a bound, alone and in lists of one.
use Rattle.std.proofs.Common.{◌≡◌, ℕ, ◌^◌, ◌≤◌, true, ℤ, Option, Some, None, Ok, Err, refl, ap, sym, ◌∙◌, arith, lit≤}
use Rattle.std.specs.Prelude.{nat_lt, pos, negsuc}
use Rattle.std.specs.Fmt.{decimal}
use Rattle.std.proofs.lemmas.Bool.{cond-true, ltb-true, lt-ltb}
use Rattle.c_values.specs.Name.{Name}
use Rattle.c_values.specs.Types.{Target, Ilp32, Lp64, address_width}
use Rattle.ac_sx.specs.Tree.{Tree, Trees, Atom, Node, no_trees, more}
use Rattle.ac_sx.specs.CodeSx.{one_of}
use Rattle.expression_text.specs.Reading.{next, ◌>>=◌}
use Rattle.expression_text.specs.Numbers.{number_at}
use Rattle.expression_text.proofs.Behind.{IsReadAs, bind_ok, kept_ok}
use Rattle.expression_text.proofs.LeavesText.{number_reads, number_spells}
use Rattle.memory_text.specs.MemoryText.{number_tree}
use Rattle.memory_text.specs.MemoryReading.{natural_from, natural_at, number_row, one_in, count_at, parts_behind}
use Rattle.memory_text.proofs.ListForms.{behind_itself, behind_is, one_is}

pub address_small : (g : Target) → 2 ^ address_width g ≤ 2 ^ 128
address_small Ilp32 = lit≤ tt
address_small Lp64 = lit≤ tt

pub natural_reads : (bound n : ℕ) → bound ≤ 2 ^ 128 → nat_lt n bound ≡ true → IsReadAs (natural_at bound) (Atom (decimal n)) n
natural_reads bound n small is = λ at.
    let less = ltb-true n bound is in
    ap (λ r. r >>= natural_from bound at) (number_reads (pos n) (lt-ltb n (2 ^ 128) (omega (arith, small, less))) at)
    ∙ cond-true (nat_lt n bound) (Ok (n, next at)) (Err at) is

pub natural_spells : (bound : ℕ) (t : Tree) (at n m : ℕ) → natural_at bound at t ≡ Ok (n, m) → (t ≡ Atom (decimal n)) × (nat_lt n bound ≡ true)
natural_spells bound t at n m e =
    let (x, first, last) = bind_ok (number_at at t) (natural_from bound at) (n, m) e in
    by x.0 x.1 first last
  where
    by : (z : ℤ) (k : ℕ) → number_at at t ≡ Ok (z, k) → natural_from bound at (z, k) ≡ Ok (n, m) → (t ≡ Atom (decimal n)) × (nat_lt n bound ≡ true)
    by (pos j) k f g =
        let p = kept_ok (nat_lt j bound) j k at n m g in
        ((number_spells t at (pos j) k f).0 ∙ ap (λ i. Atom (decimal i)) p.1, ap (λ i. nat_lt i bound) (sym p.1) ∙ p.0)
    by (negsuc j) k f g = absurd cc

pub count_reads : (w : Name) (bound n : ℕ) → bound ≤ 2 ^ 128 → nat_lt n bound ≡ true → IsReadAs (count_at w bound) (number_tree w n) n
count_reads w bound n small is = λ at.
    ap (λ o. number_row bound at (one_in o)) (behind_itself w (more (Atom (decimal n)) no_trees))
    ∙ natural_reads bound n small is (next (next at))

pub count_spells : (w : Name) (bound : ℕ) (t : Tree) (at n m : ℕ) → count_at w bound at t ≡ Ok (n, m) → (t ≡ number_tree w n) × (nat_lt n bound ≡ true)
count_spells w bound t at n m e = by_parts (parts_behind w t) refl e
  where
    by_one : (ts : Trees) (o : Option Tree) → parts_behind w t ≡ Some ts → one_of ts ≡ o → number_row bound at o ≡ Ok (n, m) → (t ≡ number_tree w n) × (nat_lt n bound ≡ true)
    by_one ts None f g h = absurd cc
    by_one ts (Some u) f g h =
        let p = natural_spells bound u (next (next at)) n m h in
        (behind_is w t ts f ∙ ap (λ us. Node (more (Atom w) us)) (one_is ts u g) ∙ ap (λ v. Node (more (Atom w) (more v no_trees))) p.0, p.1)

    by_parts : (o : Option Trees) → parts_behind w t ≡ o → number_row bound at (one_in o) ≡ Ok (n, m) → (t ≡ number_tree w n) × (nat_lt n bound ≡ true)
    by_parts None f g = absurd cc
    by_parts (Some ts) f g = by_one ts (one_of ts) f refl g
