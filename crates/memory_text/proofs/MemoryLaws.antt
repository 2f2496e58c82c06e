-- A memory is read from its tree, and what is read is the memory whose tree it is.
use Rattle.std.proofs.Common.{◌≡◌, ℕ, ◌^◌, true, ◌&&◌, List, Option, Some, None, Ok, refl, ap, sym, ◌∙◌, lit≤}
use Rattle.std.specs.Prelude.{nat_lt, codes}
use Rattle.std.proofs.lemmas.Bool.{and_parts, and_from}
use Rattle.c_values.specs.Name.{Name, same_name}
use Rattle.c_values.specs.Value.{Values}
use Rattle.c_memory.specs.Memory.{Tag}
use Rattle.c_memory.specs.Ranges.{Run}
use Rattle.c_lang.specs.Typed.{TypedUnit}
use Rattle.ac_sx.specs.Tree.{Tree, Trees, Atom, Node, more}
use Rattle.ac_sx.specs.CodeSx.{word_in}
use Rattle.expression_text.specs.Reading.{Read, next, ◌>>=◌}
use Rattle.expression_text.specs.Lists.{each, trees_for, list_at}
use Rattle.expression_text.proofs.Behind.{behind, IsReadAs, AreReadAs, bind_ok, kept_ok, value_ok}
use Rattle.expression_text.proofs.LookedUp.{name_is}
use Rattle.expression_text.proofs.ListLaws.{list_reads, list_spells}
use Rattle.memory_text.specs.MemoryText.{Setting, Memory, call_tree, number_tree, list_tree, run_tree, tag_tree, setting_tree, memory_tree, is_call, after_run, is_tag, after_setting, are_chained, is_memory}
use Rattle.memory_text.specs.MemoryReading.{call_at, count_at, listed_from, listed_at, chained_at, run_at, tag_at, setting_at, Parts, seven_of, version_from, memory_row, memory_from, memory_at, parts_behind}
use Rattle.memory_text.proofs.ListForms.{behind_itself, behind_is, all_parts, seven_are}
use Rattle.memory_text.proofs.ChainLaws.{chained_reads, chained_spells}
use Rattle.memory_text.proofs.NumberLaws.{count_reads, count_spells}
use Rattle.memory_text.proofs.RunLaws.{run_reads, run_spells}
use Rattle.memory_text.proofs.TagLaws.{tag_reads, tag_spells}
use Rattle.memory_text.proofs.SettingLaws.{setting_reads, setting_spells}
use Rattle.memory_text.proofs.CallLaws.{call_reads, call_spells}

listed_reads : {A : Type 0} (w : Name) (read : ℕ → Trees → Read A) (ts : Trees) (x : A) → AreReadAs read ts x → IsReadAs (listed_at w read) (Node (more (Atom w) ts)) x
listed_reads w read ts x h = λ at. ap (listed_from read at) (behind_itself w ts) ∙ h (next (next at))

listed_spells : {A : Type 0} (w : Name) (read : ℕ → Trees → Read A) (t : Tree) (at : ℕ) (x : A) (n : ℕ) → listed_at w read at t ≡ Ok (x, n) → (ts : Trees) × (t ≡ Node (more (Atom w) ts)) × (read (next (next at)) ts ≡ Ok (x, n))
listed_spells w read t at x n e = by (parts_behind w t) refl e
  where
    by : (o : Option Trees) → parts_behind w t ≡ o → listed_from read at o ≡ Ok (x, n) → (ts : Trees) × (t ≡ Node (more (Atom w) ts)) × (read (next (next at)) ts ≡ Ok (x, n))
    by None f g = absurd cc
    by (Some ts) f g = (ts, behind_is w t ts f, g)

list_is : (w : Name) (t : Tree) (ts us : Trees) → t ≡ Node (more (Atom w) ts) → ts ≡ us → t ≡ Node (more (Atom w) us)
list_is w t ts us e f = e ∙ ap (λ vs. Node (more (Atom w) vs)) f

version_is : (t : Tree) (at : ℕ) (v : Unit {0}) (n : ℕ) → version_from at (word_in t) ≡ Ok (v, n) → t ≡ Atom (codes "1")
version_is (Node ts) at v n e = absurd cc
version_is (Atom w) at v n e = ap Atom (name_is w (codes "1") (kept_ok (same_name w (codes "1")) tt (next at) at v n e).0)

module _ (u : TypedUnit) where
  abbrev runs_at : ℕ → Trees → Read (List Run)
  runs_at = chained_at (run_at u.layout) 0

  abbrev tags_at : ℕ → Trees → Read (List Tag)
  tags_at = list_at (tag_at u.layout)

  abbrev settings_at : ℕ → Trees → Read (List Setting)
  settings_at = chained_at (setting_at u.layout) u.globals

  -- what is left to be read, behind each part
  module _ (p : Parts) where
    abbrev whole : (Name × Values) × ℕ → ℕ × ℕ → ℕ × ℕ → List Run × ℕ → List Tag × ℕ → List Setting × ℕ → Read Memory
    whole c t f b g s = Ok (record { function = c.0.0; arguments = c.0.1; turns = t.0; fill = f.0; bytes = b.0; tags = g.0; globals = s.0 }, s.1)

    abbrev behind_tags : (Name × Values) × ℕ → ℕ × ℕ → ℕ × ℕ → List Run × ℕ → List Tag × ℕ → Read Memory
    behind_tags c t f b g = listed_at (codes "globals") settings_at g.1 p.globals >>= whole c t f b g

    abbrev behind_bytes : (Name × Values) × ℕ → ℕ × ℕ → ℕ × ℕ → List Run × ℕ → Read Memory
    behind_bytes c t f b = listed_at (codes "tags") tags_at b.1 p.tags >>= behind_tags c t f b

    abbrev behind_fill : (Name × Values) × ℕ → ℕ × ℕ → ℕ × ℕ → Read Memory
    behind_fill c t f = listed_at (codes "bytes") runs_at f.1 p.bytes >>= behind_bytes c t f

    abbrev behind_turns : (Name × Values) × ℕ → ℕ × ℕ → Read Memory
    behind_turns c t = count_at (codes "fill") (2 ^ 64) t.1 p.fill >>= behind_fill c t

    abbrev behind_call : (Name × Values) × ℕ → Read Memory
    behind_call c = count_at (codes "turns") (2 ^ 128) c.1 p.turns >>= behind_turns c

    abbrev behind_version : Unit {0} × ℕ → Read Memory
    behind_version v = call_at u v.1 p.call >>= behind_call

  abbrev parts_for : Memory → Parts
  parts_for m = record {
    version = Atom (codes "1");
    call = call_tree m.function m.arguments;
    turns = number_tree (codes "turns") m.turns;
    fill = number_tree (codes "fill") m.fill;
    bytes = list_tree (codes "bytes") run_tree m.bytes;
    tags = list_tree (codes "tags") tag_tree m.tags;
    globals = list_tree (codes "globals") setting_tree m.globals;
  }

  -- what makes a memory have a text
  pub record Fine (m : Memory) : Type 0 where
    pub call : is_call u m.function m.arguments ≡ true
    pub turns : nat_lt m.turns (2 ^ 128) ≡ true
    pub fill : nat_lt m.fill (2 ^ 64) ≡ true
    pub bytes : are_chained (after_run u.layout) 0 m.bytes ≡ true
    pub tags : each (is_tag u.layout) m.tags ≡ true
    pub globals : are_chained (after_setting u.layout) u.globals m.globals ≡ true

  pub fine : (m : Memory) → is_memory u m ≡ true → Fine m
  fine m is =
      let c = is_call u m.function m.arguments in
      let t = nat_lt m.turns (2 ^ 128) in
      let f = nat_lt m.fill (2 ^ 64) in
      let b = are_chained (after_run u.layout) 0 m.bytes in
      let g = each (is_tag u.layout) m.tags in
      let s = are_chained (after_setting u.layout) u.globals m.globals in
      let p = and_parts (c && (t && f)) (b && (g && s)) is in
      let q = and_parts c (t && f) p.0 in
      let r = and_parts t f q.1 in
      let k = and_parts b (g && s) p.1 in
      let l = and_parts g s k.1 in
      record { call = q.0; turns = r.0; fill = r.1; bytes = k.0; tags = l.0; globals = l.1 }

  are_fine : (m : Memory) → Fine m → is_memory u m ≡ true
  are_fine m h =
      let c = is_call u m.function m.arguments in
      let t = nat_lt m.turns (2 ^ 128) in
      let f = nat_lt m.fill (2 ^ 64) in
      let b = are_chained (after_run u.layout) 0 m.bytes in
      let g = each (is_tag u.layout) m.tags in
      let s = are_chained (after_setting u.layout) u.globals m.globals in
      and_from (c && (t && f)) (b && (g && s)) (and_from c (t && f) h.call (and_from t f h.turns h.fill)) (and_from b (g && s) h.bytes (and_from g s h.tags h.globals))

  pub memory_reads : (m : Memory) → is_memory u m ≡ true → IsReadAs (memory_at u) (memory_tree m) m
  memory_reads m is = λ at.
      let h = fine m is in
      let p = parts_for m in
      let c = next (next (next at)) in
      let t = behind c p.call in
      let f = behind t p.turns in
      let b = behind f p.fill in
      let g = behind b p.bytes in
      let s = behind g p.tags in
      ap (memory_from u at) (behind_itself (codes "memory") (all_parts p))
      ∙ ap (λ r. r >>= behind_call p) (call_reads u m.function m.arguments h.call c)
      ∙ ap (λ r. r >>= behind_turns p ((m.function, m.arguments), t)) (count_reads (codes "turns") (2 ^ 128) m.turns (lit≤ tt) h.turns t)
      ∙ ap (λ r. r >>= behind_fill p ((m.function, m.arguments), t) (m.turns, f)) (count_reads (codes "fill") (2 ^ 64) m.fill (lit≤ tt) h.fill f)
      ∙ ap (λ r. r >>= behind_bytes p ((m.function, m.arguments), t) (m.turns, f) (m.fill, b))
      (listed_reads (codes "bytes") runs_at (trees_for run_tree m.bytes) m.bytes (chained_reads (run_at u.layout) run_tree (after_run u.layout) (run_reads u.layout) 0 m.bytes h.bytes) b)
      ∙ ap (λ r. r >>= behind_tags p ((m.function, m.arguments), t) (m.turns, f) (m.fill, b) (m.bytes, g))
      (listed_reads (codes "tags") tags_at (trees_for tag_tree m.tags) m.tags (list_reads (tag_at u.layout) tag_tree (is_tag u.layout) (tag_reads u.layout) m.tags h.tags) g)
      ∙ ap (λ r. r >>= whole p ((m.function, m.arguments), t) (m.turns, f) (m.fill, b) (m.bytes, g) (m.tags, s))
      (listed_reads (codes "globals") settings_at (trees_for setting_tree m.globals) m.globals (chained_reads (setting_at u.layout) setting_tree (after_setting u.layout) (setting_reads u.layout) u.globals m.globals h.globals) s)

  abbrev IsMemoryTree : Tree → Memory → Type 0
  IsMemoryTree t m = (t ≡ memory_tree m) × (is_memory u m ≡ true)

  tree_moved : (t : Tree) (m n : Memory) → m ≡ n → IsMemoryTree t m → IsMemoryTree t n
  tree_moved t m n same is = (is.0 ∙ ap memory_tree same, ap (is_memory u) (sym same) ∙ is.1)

  -- trees of the parts are the parts for a memory
  record Spell (p : Parts) (m : Memory) : Type 0 where
    version : p.version ≡ Atom (codes "1")
    call : p.call ≡ call_tree m.function m.arguments
    turns : p.turns ≡ number_tree (codes "turns") m.turns
    fill : p.fill ≡ number_tree (codes "fill") m.fill
    bytes : p.bytes ≡ list_tree (codes "bytes") run_tree m.bytes
    tags : p.tags ≡ list_tree (codes "tags") tag_tree m.tags
    globals : p.globals ≡ list_tree (codes "globals") setting_tree m.globals

  parts_spell : (p : Parts) (m : Memory) → Spell p m → all_parts p ≡ all_parts (parts_for m)
  parts_spell p m h =
      rw (h.version, h.call, h.turns, h.fill, h.bytes, h.tags, h.globals) refl

  whole_spells : (t : Tree) (p : Parts) (found m : Memory) → t ≡ Node (more (Atom (codes "memory")) (all_parts p)) → Spell p found → Fine found → found ≡ m → IsMemoryTree t m
  whole_spells t p found m there spell good same = tree_moved t found m same (there ∙ ap (λ ts. Node (more (Atom (codes "memory")) ts)) (parts_spell p found spell), are_fine found good)

  row_spells : (t : Tree) (at : ℕ) (p : Parts) (m : Memory) (n : ℕ) → t ≡ Node (more (Atom (codes "memory")) (all_parts p)) → memory_row u at (Some p) ≡ Ok (m, n) → IsMemoryTree t m
  row_spells t at p m n there e =
      let (v, is_v, e1) = bind_ok (version_from (next (next at)) (word_in p.version)) (behind_version p) (m, n) e in
      let (c, is_c, e2) = bind_ok (call_at u v.1 p.call) (behind_call p) (m, n) e1 in
      let (t', is_t, e3) = bind_ok (count_at (codes "turns") (2 ^ 128) c.1 p.turns) (behind_turns p c) (m, n) e2 in
      let (f, is_f, e4) = bind_ok (count_at (codes "fill") (2 ^ 64) t'.1 p.fill) (behind_fill p c t') (m, n) e3 in
      let (b, is_b, e5) = bind_ok (listed_at (codes "bytes") runs_at f.1 p.bytes) (behind_bytes p c t' f) (m, n) e4 in
      let (g, is_g, e6) = bind_ok (listed_at (codes "tags") tags_at b.1 p.tags) (behind_tags p c t' f b) (m, n) e5 in
      let (s, is_s, e7) = bind_ok (listed_at (codes "globals") settings_at g.1 p.globals) (whole p c t' f b g) (m, n) e6 in
      let found : Memory = record { function = c.0.0; arguments = c.0.1; turns = t'.0; fill = f.0; bytes = b.0; tags = g.0; globals = s.0 } in
      let call = call_spells u p.call v.1 c.0 c.1 is_c in
      let turns = count_spells (codes "turns") (2 ^ 128) p.turns c.1 t'.0 t'.1 is_t in
      let fill = count_spells (codes "fill") (2 ^ 64) p.fill t'.1 f.0 f.1 is_f in
      let (bs, bytes, read_b) = listed_spells (codes "bytes") runs_at p.bytes f.1 b.0 b.1 is_b in
      let all_b = chained_spells (run_at u.layout) run_tree (after_run u.layout) (run_spells u.layout) 0 bs (next (next f.1)) b.0 b.1 read_b in
      let (gs, tags, read_g) = listed_spells (codes "tags") tags_at p.tags b.1 g.0 g.1 is_g in
      let all_g = list_spells (tag_at u.layout) tag_tree (is_tag u.layout) (tag_spells u.layout) gs (next (next b.1)) g.0 g.1 read_g in
      let (ss, globals, read_s) = listed_spells (codes "globals") settings_at p.globals g.1 s.0 s.1 is_s in
      let all_s = chained_spells (setting_at u.layout) setting_tree (after_setting u.layout) (setting_spells u.layout) u.globals ss (next (next g.1)) s.0 s.1 read_s in
      whole_spells t p found m there
      (record {
        version = version_is p.version (next (next at)) v.0 v.1 is_v;
        call = call.0;
        turns = turns.0;
        fill = fill.0;
        bytes = list_is (codes "bytes") p.bytes bs (trees_for run_tree b.0) bytes all_b.0;
        tags = list_is (codes "tags") p.tags gs (trees_for tag_tree g.0) tags all_g.0;
        globals = list_is (codes "globals") p.globals ss (trees_for setting_tree s.0) globals all_s.0;
      })
      (record { call = call.1; turns = turns.1; fill = fill.1; bytes = all_b.1; tags = all_g.1; globals = all_s.1 })
      (value_ok found s.1 m n e7)

  pub memory_spells : (t : Tree) (at : ℕ) (m : Memory) (n : ℕ) → memory_at u at t ≡ Ok (m, n) → IsMemoryTree t m
  memory_spells t at m n e = by_list (parts_behind (codes "memory") t) refl e
    where
      by_parts : (ts : Trees) (o : Option Parts) → parts_behind (codes "memory") t ≡ Some ts → seven_of ts ≡ o → memory_row u at o ≡ Ok (m, n) → IsMemoryTree t m
      by_parts ts None f g h = absurd cc
      by_parts ts (Some p) f g h = row_spells t at p m n (behind_is (codes "memory") t ts f ∙ ap (λ us. Node (more (Atom (codes "memory")) us)) (seven_are ts p g)) h

      by_list : (o : Option Trees) → parts_behind (codes "memory") t ≡ o → memory_from u at o ≡ Ok (m, n) → IsMemoryTree t m
      by_list None f h = absurd cc
      by_list (Some ts) f h = by_parts ts (seven_of ts) f refl h
