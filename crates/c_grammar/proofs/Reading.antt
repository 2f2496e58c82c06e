-- What an expression, a type or a declarator spells is read as that tree.
use Rattle.std.proofs.Common.{ℕ, ◌≡◌, Bool, true, false, List, ◌∷◌, ◌++◌, suc, nat_le, refl, ap, ◌∙◌}
use Rattle.c_lex.specs.declared.token.Punct.TheVariants as sign
use Rattle.c_lex.specs.Lexeme.{Lexeme}
use Rattle.c_grammar.specs.declared.symbol.Seen.{Seen}
use Rattle.c_grammar.specs.declared.symbol.Seen.TheVariants as seen
use Rattle.c_grammar.specs.declared.symbol.Wanted.{Wanted}
use Rattle.c_grammar.specs.declared.symbol.Wanted.TheVariants as wanted
use Rattle.c_grammar.specs.declared.symbol.Production.TheVariants as ends
use Rattle.c_grammar.specs.declared.symbol.Symbol.{Symbol}
use Rattle.c_grammar.specs.declared.symbol.Symbol.TheVariants as symbol
use Rattle.c_grammar.specs.Tree.{Name, Exp, TypeName, Words, Members, Declarators, Declarator, Dimensions, Enumerators, Enumerator}
use Rattle.c_grammar.specs.Operators.{level}
use Rattle.c_grammar.specs.Spells.{SpellsExp, SpellsType, SpellsWords, SpellsStars, SpellsMembers, SpellsDeclarators, SpellsDeclarator, SpellsDimensions, SpellsEnumerators, SpellsEnumerator, looser, variable, number_constant, character_constant, parenthesis, index, member, pointer_member, unary, sizeof_value, sizeof_type, cast, binary, conditional, typed, no_words, plain_word, type_name, struct_tag, struct_body, tagged_struct, enum_tag, enum_body, tagged_enum, last_member, more_members, last_declarator, more_declarators, declare, no_dimensions, more_dimensions, last_enumerator, last_enumerator_comma, more_enumerators, implicit, explicit, no_stars, star, star_const, mark}
use Rattle.c_grammar.specs.CodeChoice.{choice_of, least, end, declarator}
use Rattle.c_grammar.specs.CodeBuild.{Value, Tok, OfExp, OfType, OfWords, OfMembers, OfDeclarators, OfDeclarator, OfDimensions, OfStars, OfEnumerators, OfEnumerator, act}
use Rattle.c_grammar.specs.CodeStack.{go}
use Rattle.c_grammar.proofs.Steps.{ended_by, rank, same_level, rank_least, needs, takes, le_more, le_trans, le_zero, le_next, not_below, level_small, needs_sign, gap, tail_level, tail_nothing, tail_sized, takes_identifier, takes_variable, takes_unary, takes_sizeof, takes_index, takes_dot, takes_arrow, takes_binary, takes_question, opens_value, opens_type, opens_cast, cast_rest, type_starts, value_starts, ends_words, ends_stars, stars_end, declarators_end, words_are_no_brace, passes_words, passes_stars, passes_struct, passes_enum, takes_tag, takes_enum_tag, takes_word, takes_type_name, opens_members, opens_more_members, members_start, ends_dimensions, passes_dimensions, takes_enumerator, ends_enumerator, enumerator_needs, passes_enum_value, enumerators_next}

pub reads_stars : {f : Bool} {ats : List ℕ} {s t : List Lexeme} → SpellsStars f ats s t → (ns next : List Name) (K : List Symbol) (vs : List Value) → ends_stars t ≡ true → go ns next (symbol.Stars f ∷ K) vs s ≡ go ns next K (OfStars ats ∷ vs) t
unfolding choice_of act
reads_stars no_stars ns next K vs e = passes_stars ns next _ K vs _ e
reads_stars (star d) ns next K vs e = takes _ _ _ _ _ _ _ _ _ _ refl refl ∙ reads_stars d ns next _ _ e ∙ ended_by _ _ _ _ _ _ _ refl
reads_stars (star_const d) ns next K vs e = takes _ _ _ _ _ _ _ _ _ _ refl refl ∙ ended_by _ _ _ _ _ _ _ refl ∙ reads_stars d ns next _ _ e

mutual
  unfolding choice_of act

  pub reads : {ns : List Name} {b : Bool} {l : ℕ} {e : Exp} {s t : List Lexeme} → SpellsExp ns b l e s t → (next : List Name) (w : Wanted) (K : List Symbol) (vs : List Value) → nat_le (least w) l ≡ true → nat_le (needs t) (rank e) ≡ true → go ns next (symbol.Expression b w ∷ K) vs s ≡ go ns next (symbol.Tail b w (rank e) ∷ K) (OfExp e ∷ vs) t
  reads (looser {l = l} d) next w K vs h j = reads d next w K vs (le_more (least w) l h) j
  reads {ns = ns} (variable p) next w K vs h j = takes_variable _ _ _ _ _ _ _ _ _ _ p
  reads number_constant next w K vs h j = takes _ _ _ _ _ _ _ _ _ _ refl refl ∙ ended_by _ _ _ _ _ _ _ refl
  reads character_constant next w K vs h j = takes _ _ _ _ _ _ _ _ _ _ refl refl ∙ ended_by _ _ _ _ _ _ _ refl
  reads (parenthesis {e = e} d) next w K vs h j =
      takes _ _ _ _ _ _ _ _ _ _ refl refl ∙ opens_value _ _ _ _ _ _ _ (value_starts d) ∙ reads d _ (wanted.Level 0) _ _ refl (le_zero (rank e)) ∙ tail_nothing _ _ _ _ _ _ _ _ refl ∙ takes _ _ _ _ _ _ _ _ _ _ refl refl ∙ ended_by _ _ _ _ _ _ _ refl
  reads (index {e = e} {x = x} d f) next w K vs h j =
      reads d _ _ _ _ h (rank_least d) ∙ takes_index _ _ _ _ _ _ _ _ _ _ (rank_least d) ∙ reads f _ (wanted.Level 0) _ _ refl (le_zero (rank x)) ∙ tail_nothing _ _ _ _ _ _ _ _ refl ∙ takes _ _ _ _ _ _ _ _ _ _ refl refl ∙ ended_by _ _ _ _ _ _ _ refl
  reads (member d p) next w K vs h j =
      reads d _ _ _ _ h (rank_least d) ∙ takes_dot _ _ _ _ _ _ _ _ _ _ (rank_least d) ∙ takes_identifier _ _ _ _ _ _ _ _ p ∙ ended_by _ _ _ _ _ _ _ refl
  reads (pointer_member d p) next w K vs h j =
      reads d _ _ _ _ h (rank_least d) ∙ takes_arrow _ _ _ _ _ _ _ _ _ _ (rank_least d) ∙ takes_identifier _ _ _ _ _ _ _ _ p ∙ ended_by _ _ _ _ _ _ _ refl
  reads (unary {e = e} {t = t} d) next w K vs h j =
      takes_unary _ _ _ _ _ _ _ _ _ _ h ∙ reads d _ (wanted.Level 11) _ _ refl (le_next (needs t) 10 (rank e) (gap t j) (rank_least d)) ∙ tail_level _ _ _ 11 (rank e) 10 _ _ _ (gap t j) refl refl ∙ ended_by _ _ _ _ _ _ _ refl
  reads (sizeof_value {e = e} {t = t} d) next w K vs h j =
      takes_sizeof _ _ _ _ _ _ _ _ _ h ∙ reads d _ wanted.Sized _ _ refl (le_trans (needs t) 12 (rank e) j (rank_least d)) ∙ tail_sized _ _ _ _ _ _ _ _ _ (gap t j)
  reads (sizeof_type d) next w K vs h j =
      takes_sizeof _ _ _ _ _ _ _ _ _ h ∙ takes _ _ _ _ _ _ _ _ _ _ refl refl ∙ opens_type _ _ _ wanted.Sized _ _ _ refl (type_starts d) ∙ reads_type d _ _ _ refl refl ∙ takes _ _ _ _ _ _ _ _ _ _ refl refl ∙ ended_by _ _ _ _ _ _ _ refl
  reads {ns = ns} (cast {b = b} {ty = ty} {s = s} {t = t} {u = u} {a1 = a1} {z1 = z1} {a = a} {z = z} {e = e} d f) next w K vs h j =
      takes _ _ _ _ _ _ _ _ _ _ refl refl ∙ opens_type _ _ _ w _ _ _ (opens_cast w h) (type_starts d) ∙ reads_type d _ _ _ refl refl ∙ takes _ _ _ _ _ _ _ _ _ _ refl refl ∙ ap (λ rest. go ns next (rest ++ K) (Tok (mark sign.RightParenthesis a1 z1) ∷ OfType ty ∷ Tok (mark sign.LeftParenthesis a z) ∷ vs) t) (cast_rest b w h) ∙ reads f _ (wanted.Level 11) _ _ refl (le_next (needs u) 10 (rank e) (gap u (le_trans (needs u) 11 12 j refl)) (rank_least f)) ∙ tail_level _ _ _ 11 (rank e) 10 _ _ _ (gap u (le_trans (needs u) 11 12 j refl)) refl refl ∙ ended_by _ _ _ _ _ _ _ refl
  reads (binary {op = op} {x = x} {y = y} {u = u} d f) next w K vs h j =
      reads d _ _ _ _ h (rw (needs_sign op) (rank_least d)) ∙ takes_binary _ _ _ _ (rank x) op _ _ _ _ _ h (rank_least d) ∙ reads f _ (wanted.Level (suc (level op))) _ _ (same_level (suc (level op))) (le_next (needs u) (level op) (rank y) j (rank_least f)) ∙ tail_level _ _ _ (suc (level op)) (rank y) (level op) _ _ _ j (level_small op) (not_below (level op)) ∙ ended_by _ _ _ _ _ _ _ refl
  reads (conditional {c = c} {x = x} {y = y} {v = v} d f g) next w K vs h j =
      reads d _ _ _ _ (le_more (least w) 0 h) (rank_least d) ∙ takes_question _ _ _ _ (rank c) _ _ _ _ _ h (rank_least d) ∙ reads f _ (wanted.Level 0) _ _ refl (le_zero (rank x)) ∙ tail_nothing _ _ _ _ _ _ _ _ refl ∙ takes _ _ _ _ _ _ _ _ _ _ refl refl ∙ reads g _ (wanted.Level 0) _ _ refl (le_trans (needs v) 0 (rank y) j (le_zero (rank y))) ∙ tail_nothing _ _ _ _ _ _ _ _ j ∙ ended_by _ _ _ _ _ _ _ refl

  pub reads_type : {ns : List Name} {b : Bool} {ty : TypeName} {s t : List Lexeme} → SpellsType ns b ty s t → (next : List Name) (K : List Symbol) (vs : List Value) → ends_words ns t ≡ true → ends_stars t ≡ true → go ns next (symbol.Words b seen.Nothing ∷ symbol.Stars false ∷ end ends.TypeName ∷ K) vs s ≡ go ns next K (OfType ty ∷ vs) t
  reads_type {ns = ns} (typed d f) next K vs e g = reads_words d _ _ _ (stars_end ns f refl e) ∙ reads_stars f _ _ _ _ g ∙ ended_by _ _ _ _ _ _ _ refl

  pub reads_words : {ns : List Name} {b : Bool} {q : Seen} {ws : Words} {s t : List Lexeme} → SpellsWords ns b q ws s t → (next : List Name) (K : List Symbol) (vs : List Value) → ends_words ns t ≡ true → go ns next (symbol.Words b q ∷ K) vs s ≡ go ns next K (OfWords ws ∷ vs) t
  reads_words (no_words c) next K vs e = passes_words _ _ _ _ _ _ _ c e
  reads_words (plain_word h d) next K vs e = takes_word _ _ _ _ _ _ _ _ _ _ _ h ∙ reads_words d _ _ _ e ∙ ended_by _ _ _ _ _ _ _ refl
  reads_words (type_name h d) next K vs e = takes_type_name _ _ _ _ _ _ _ _ _ h ∙ reads_words d _ _ _ e ∙ ended_by _ _ _ _ _ _ _ refl
  reads_words (struct_tag h d) next K vs e =
      takes _ _ _ _ _ _ _ _ _ _ refl refl ∙ takes_tag _ _ _ _ _ _ _ _ _ h ∙ passes_struct _ _ _ _ _ _ _ _ (words_are_no_brace d e) ∙ reads_words d _ _ _ e ∙ ended_by _ _ _ _ _ _ _ refl
  reads_words (struct_body f d) next K vs e =
      takes _ _ _ _ _ _ _ _ _ _ refl refl ∙ takes _ _ _ _ _ _ _ _ _ _ refl refl ∙ opens_members _ _ _ _ _ ∙ reads_members f _ _ _ ∙ ended_by _ _ _ _ _ _ _ refl ∙ reads_words d _ _ _ e ∙ ended_by _ _ _ _ _ _ _ refl
  reads_words (tagged_struct h f d) next K vs e =
      takes _ _ _ _ _ _ _ _ _ _ refl refl ∙ takes_tag _ _ _ _ _ _ _ _ _ h ∙ takes _ _ _ _ _ _ _ _ _ _ refl refl ∙ opens_members _ _ _ _ _ ∙ reads_members f _ _ _ ∙ ended_by _ _ _ _ _ _ _ refl ∙ reads_words d _ _ _ e ∙ ended_by _ _ _ _ _ _ _ refl
  reads_words (enum_tag h d) next K vs e =
      takes _ _ _ _ _ _ _ _ _ _ refl refl ∙ takes_enum_tag _ _ _ _ _ _ _ _ _ h ∙ passes_enum _ _ _ _ _ _ _ _ (words_are_no_brace d e) ∙ reads_words d _ _ _ e ∙ ended_by _ _ _ _ _ _ _ refl
  reads_words (enum_body f d) next K vs e =
      takes _ _ _ _ _ _ _ _ _ _ refl refl ∙ takes _ _ _ _ _ _ _ _ _ _ refl refl ∙ reads_enumerators f _ _ _ ∙ ended_by _ _ _ _ _ _ _ refl ∙ reads_words d _ _ _ e ∙ ended_by _ _ _ _ _ _ _ refl
  reads_words (tagged_enum h f d) next K vs e =
      takes _ _ _ _ _ _ _ _ _ _ refl refl ∙ takes_enum_tag _ _ _ _ _ _ _ _ _ h ∙ takes _ _ _ _ _ _ _ _ _ _ refl refl ∙ reads_enumerators f _ _ _ ∙ ended_by _ _ _ _ _ _ _ refl ∙ reads_words d _ _ _ e ∙ ended_by _ _ _ _ _ _ _ refl

  pub reads_members : {ns : List Name} {ms : Members} {s t : List Lexeme} → SpellsMembers ns ms s t → (next : List Name) (K : List Symbol) (vs : List Value) → go ns next (symbol.Words false seen.Nothing ∷ declarator false (symbol.DeclaratorsMore ∷ symbol.MembersMore ∷ K)) vs s ≡ go ns next K (OfMembers ms ∷ vs) t
  reads_members (last_member d f) next K vs = reads_words d _ _ _ (declarators_end f) ∙ reads_declarators f _ _ _ ∙ takes _ _ _ _ _ _ _ _ _ _ refl refl ∙ ended_by _ _ _ _ _ _ _ refl
  reads_members (more_members d f g) next K vs = reads_words d _ _ _ (declarators_end f) ∙ reads_declarators f _ _ _ ∙ opens_more_members _ _ _ _ _ (members_start g) ∙ reads_members g _ _ _ ∙ ended_by _ _ _ _ _ _ _ refl

  pub reads_declarators : {ns : List Name} {ds : Declarators} {s t : List Lexeme} → SpellsDeclarators ns ds s t → (next : List Name) (K : List Symbol) (vs : List Value) → go ns next (declarator false (symbol.DeclaratorsMore ∷ K)) vs s ≡ go ns next K (OfDeclarators ds ∷ vs) t
  reads_declarators (last_declarator d) next K vs = reads_declarator d _ _ _ refl ∙ takes _ _ _ _ _ _ _ _ _ _ refl refl ∙ ended_by _ _ _ _ _ _ _ refl
  reads_declarators (more_declarators d f) next K vs = reads_declarator d _ _ _ refl ∙ takes _ _ _ _ _ _ _ _ _ _ refl refl ∙ reads_declarators f _ _ _ ∙ ended_by _ _ _ _ _ _ _ refl

  pub reads_declarator : {ns : List Name} {b : Bool} {d : Declarator} {s t : List Lexeme} → SpellsDeclarator ns b d s t → (next : List Name) (K : List Symbol) (vs : List Value) → ends_dimensions t ≡ true → go ns next (declarator b K) vs s ≡ go ns next K (OfDeclarator d ∷ vs) t
  reads_declarator (declare d h f) next K vs e = reads_stars d _ _ _ _ refl ∙ takes_identifier _ _ _ _ _ _ _ _ h ∙ reads_dimensions f _ _ _ e ∙ ended_by _ _ _ _ _ _ _ refl

  pub reads_dimensions : {ns : List Name} {b : Bool} {dims : Dimensions} {s t : List Lexeme} → SpellsDimensions ns b dims s t → (next : List Name) (K : List Symbol) (vs : List Value) → ends_dimensions t ≡ true → go ns next (symbol.Dimensions b ∷ K) vs s ≡ go ns next K (OfDimensions dims ∷ vs) t
  reads_dimensions no_dimensions next K vs e = passes_dimensions _ _ _ _ _ _ e
  reads_dimensions (more_dimensions {e = x} d f) next K vs e = takes _ _ _ _ _ _ _ _ _ _ refl refl ∙ reads d _ (wanted.Level 0) _ _ refl (le_zero (rank x)) ∙ tail_nothing _ _ _ _ _ _ _ _ refl ∙ takes _ _ _ _ _ _ _ _ _ _ refl refl ∙ reads_dimensions f _ _ _ e ∙ ended_by _ _ _ _ _ _ _ refl

  pub reads_enumerators : {ns : List Name} {ens : Enumerators} {s t : List Lexeme} → SpellsEnumerators ns ens s t → (next : List Name) (K : List Symbol) (vs : List Value) → go ns next (symbol.Enumerators ∷ K) vs s ≡ go ns next K (OfEnumerators ens ∷ vs) t
  reads_enumerators (last_enumerator d) next K vs = reads_enumerator d _ _ _ refl ∙ takes _ _ _ _ _ _ _ _ _ _ refl refl ∙ ended_by _ _ _ _ _ _ _ refl
  reads_enumerators (last_enumerator_comma d) next K vs = reads_enumerator d _ _ _ refl ∙ takes _ _ _ _ _ _ _ _ _ _ refl refl ∙ takes _ _ _ _ _ _ _ _ _ _ refl refl ∙ ended_by _ _ _ _ _ _ _ refl
  reads_enumerators (more_enumerators d f) next K vs = reads_enumerator d _ _ _ refl ∙ takes _ _ _ _ _ _ _ _ _ _ refl refl ∙ enumerators_next f _ _ _ ∙ reads_enumerators f _ _ _ ∙ ended_by _ _ _ _ _ _ _ refl

  pub reads_enumerator : {ns : List Name} {en : Enumerator} {s t : List Lexeme} → SpellsEnumerator ns en s t → (next : List Name) (K : List Symbol) (vs : List Value) → ends_enumerator t ≡ true → go ns next (symbol.Enumerators ∷ K) vs s ≡ go ns next (symbol.EnumMore ∷ K) (OfEnumerator en ∷ vs) t
  reads_enumerator (implicit h) next K vs e = takes_enumerator _ _ _ _ _ _ _ _ h ∙ passes_enum_value _ _ _ _ _ _ e
  reads_enumerator (explicit {e = x} {t = t} h d) next K vs e = takes_enumerator _ _ _ _ _ _ _ _ h ∙ takes _ _ _ _ _ _ _ _ _ _ refl refl ∙ reads d _ (wanted.Level 0) _ _ refl (le_trans (needs t) 0 (rank x) (enumerator_needs t e) (le_zero (rank x))) ∙ tail_nothing _ _ _ _ _ _ _ _ (enumerator_needs t e) ∙ ended_by _ _ _ _ _ _ _ refl
