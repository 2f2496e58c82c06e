-- The value of a global is read from its tree, and what is read is the value whose tree it is.
use Rattle.std.proofs.Common.{◌≡◌, ℕ, Bool, true, false, cond, List, [], ◌∷◌, Option, Some, None, Ok, refl, ap, ap₂, sym, ◌∙◌}
use Rattle.std.proofs.lemmas.Bool.{cond-true}
use Rattle.c_values.specs.Name.{Name}
use Rattle.c_values.specs.Layout.{Layout, GlobalVar, shape_of}
use Rattle.ac_sx.specs.Tree.{Tree, Node}
use Rattle.expression_text.specs.Reading.{next, ◌>>=◌}
use Rattle.expression_text.specs.Names.{is_name, name_at}
use Rattle.expression_text.specs.TypeText.{row}
use Rattle.expression_text.proofs.Behind.{behind, bind_ok, value_ok}
use Rattle.expression_text.proofs.TypesText.{name_reads, name_spells}
use Rattle.memory_text.specs.ValueText.{value_tree, is_value}
use Rattle.memory_text.specs.ValueReading.{value_at}
use Rattle.memory_text.specs.MemoryText.{Setting, setting_tree, global_named, where_global, after_setting}
use Rattle.memory_text.specs.MemoryReading.{setting_of, setting_row, setting_at, pair_in}
use Rattle.memory_text.proofs.ListForms.{pair_is}
use Rattle.memory_text.proofs.ValueLaws.{value_reads, value_spells}

abbrev pub Globals : Type 0
Globals = List GlobalVar

-- a setting of one of these globals
pub record Sets (l : Layout) (gs : Globals) (s : Setting) (rest : Globals) (g : GlobalVar) : Type 0 where
  pub name : is_name s.name ≡ true
  pub there : global_named gs s.name ≡ Some (g, rest)
  pub value : is_value l.target (shape_of l g.type) s.value ≡ true

pub sets : (l : Layout) (gs : Globals) (s : Setting) (rest : Globals) → after_setting l gs s ≡ Some rest → (g : GlobalVar) × Sets l gs s rest g
sets l gs s rest h = by_name (is_name s.name) refl h
  where
    by_value : (g : GlobalVar) (others : Globals) (b : Bool) → is_name s.name ≡ true → global_named gs s.name ≡ Some (g, others) → is_value l.target (shape_of l g.type) s.value ≡ b → cond {A = Option Globals} b (Some others) None ≡ Some rest → (g : GlobalVar) × Sets l gs s rest g
    by_value g others false f i j k = absurd cc
    by_value g others true f i j k = let same : others ≡ rest = cc in (g, record { name = f; there = i ∙ ap (λ rs. Some (g, rs)) same; value = j })

    by_global : (o : Option (GlobalVar × Globals)) → is_name s.name ≡ true → global_named gs s.name ≡ o → where_global l s o ≡ Some rest → (g : GlobalVar) × Sets l gs s rest g
    by_global None f i k = absurd cc
    by_global (Some (g, others)) f i k = by_value g others (is_value l.target (shape_of l g.type) s.value) f i refl k

    by_name : (b : Bool) → is_name s.name ≡ b → cond {A = Option Globals} b (where_global l s (global_named gs s.name)) None ≡ Some rest → (g : GlobalVar) × Sets l gs s rest g
    by_name false f k = absurd cc
    by_name true f k = by_global (global_named gs s.name) f refl k

setting : (l : Layout) (gs : Globals) (s : Setting) (rest : Globals) (g : GlobalVar) → Sets l gs s rest g → after_setting l gs s ≡ Some rest
setting l gs s rest g h =
    cond-true (is_name s.name) (where_global l s (global_named gs s.name)) None h.name
    ∙ ap (where_global l s) h.there
    ∙ cond-true (is_value l.target (shape_of l g.type) s.value) (Some rest) None h.value

pub setting_reads : (l : Layout) (gs : Globals) (s : Setting) (rest : Globals) → after_setting l gs s ≡ Some rest → (at : ℕ) → setting_at l gs at (setting_tree s) ≡ Ok ((s, rest), behind at (setting_tree s))
setting_reads l gs s rest h at =
    let (g, f) = sets l gs s rest h in
    ap (λ r. r >>= λ x. setting_of l (next at) x (value_tree s.value) (global_named gs x.0)) (name_reads s.name f.name (next at))
    ∙ ap (setting_of l (next at) (s.name, next (next at)) (value_tree s.value)) f.there
    ∙ ap (λ r. r >>= λ y. Ok ((record { name = s.name; value = y.0 }, rest), y.1)) (value_reads l.target (shape_of l g.type) s.value f.value (next (next at)))

pub setting_spells : (l : Layout) (gs : Globals) (t : Tree) (at : ℕ) (p : Setting × Globals) (n : ℕ) → setting_at l gs at t ≡ Ok (p, n) → (t ≡ setting_tree p.0) × (after_setting l gs p.0 ≡ Some p.1)
setting_spells l gs t at p n e = by_pair (pair_in t) refl e
  where
    by_global : (a u : Tree) (x : Name × ℕ) (o : Option (GlobalVar × Globals)) → pair_in t ≡ Some (a, u) → name_at (next at) a ≡ Ok x → global_named gs x.0 ≡ o → setting_of l (next at) x u o ≡ Ok (p, n) →
        (t ≡ setting_tree p.0) × (after_setting l gs p.0 ≡ Some p.1)
    by_global a u x None f i j k = absurd cc
    by_global a u x (Some (g, rest)) f i j k =
        let (y, second, last) = bind_ok (value_at l.target (shape_of l g.type) x.1 u) (λ y. Ok ((record { name = x.0; value = y.0 }, rest), y.1)) (p, n) k in
        let s : Setting = record { name = x.0; value = y.0 } in
        let q = name_spells a (next at) x.0 x.1 i in
        let v = value_spells l.target (shape_of l g.type) u x.1 y.0 y.1 second in
        let same = value_ok (s, rest) y.1 p n last in (
          pair_is t (a, u) f ∙ ap₂ (λ b w. Node (row (b ∷ w ∷ []))) q.0 v.0 ∙ ap (λ (r : Setting × Globals). setting_tree r.0) same,
          ap (λ (r : Setting × Globals). after_setting l gs r.0) (sym same) ∙ setting l gs s rest g (record { name = q.1; there = j; value = v.1 }) ∙ ap (λ (r : Setting × Globals). Some r.1) same,
        )

    by_pair : (o : Option (Tree × Tree)) → pair_in t ≡ o → setting_row l gs at o ≡ Ok (p, n) → (t ≡ setting_tree p.0) × (after_setting l gs p.0 ≡ Some p.1)
    by_pair None f k = absurd cc
    by_pair (Some (a, u)) f k =
        let (x, first, others) = bind_ok (name_at (next at) a) (λ x. setting_of l (next at) x u (global_named gs x.0)) (p, n) k in
        by_global a u x (global_named gs x.0) f first refl others
