-- The expressions and types that tokens of a text spell are written.
use Rattle.std.proofs.Common.{ℕ, Bool, List}
use Rattle.c_lex.specs.Lexeme.{Lexeme}
use Rattle.c_grammar.specs.declared.symbol.Seen.{Seen}
use Rattle.c_grammar.specs.Tree.{Name, Exp, TypeName, Words, Members, Declarators, Declarator, Dimensions, Enumerators, Enumerator}
use Rattle.c_grammar.specs.Spells.{SpellsStars, no_stars, star, star_const, SpellsExp, looser, variable, number_constant, character_constant, parenthesis, index, member, pointer_member, unary, sizeof_value, sizeof_type, cast, binary, conditional, SpellsType, typed, SpellsWords, no_words, plain_word, type_name, struct_tag, struct_body, tagged_struct, enum_tag, enum_body, tagged_enum, SpellsMembers, last_member, more_members, SpellsDeclarators, last_declarator, more_declarators, SpellsDeclarator, declare, SpellsDimensions, no_dimensions, more_dimensions, SpellsEnumerators, last_enumerator, last_enumerator_comma, more_enumerators, SpellsEnumerator, implicit, explicit}
use Rattle.typing_laws.specs.Written.{IsExp, IsTypeName, AreWords, AreMembers, AreDeclarators, IsDeclarator, AreDimensions, AreEnumerators, IsEnumerator}
use Rattle.typing_laws.proofs.Lexed.{Left, first_left, rest_left}

-- so many tokens of a text are left at most
module _ (n : ℕ) where
  pub stars_kinds : {f : Bool} {ats : List ℕ} {s t : List Lexeme} → SpellsStars f ats s t → Left n s → Left n t
  stars_kinds no_stars w = w
  stars_kinds (star h) w = stars_kinds h (rest_left w)
  stars_kinds (star_const h) w = stars_kinds h (rest_left w)

  mutual
    pub exp_written : {ns : List Name} {b : Bool} {l : ℕ} {e : Exp} {s t : List Lexeme} → SpellsExp ns b l e s t → Left n s → IsExp e × Left n t
    exp_written (looser h) w = exp_written h w
    exp_written (variable c) w = (tt, (rest_left w))
    exp_written number_constant w = (tt, (rest_left w))
    exp_written character_constant w = ((first_left w), (rest_left w))
    exp_written (parenthesis h) w = let r = exp_written h (rest_left w) in (r.0, (rest_left r.1))
    exp_written (index h k) w = let r = exp_written h w in let q = exp_written k (rest_left r.1) in ((r.0, q.0), (rest_left q.1))
    exp_written (member h c) w = let r = exp_written h w in (r.0, (rest_left (rest_left r.1)))
    exp_written (pointer_member h c) w = let r = exp_written h w in (r.0, (rest_left (rest_left r.1)))
    exp_written (unary h) w = exp_written h (rest_left w)
    exp_written (sizeof_value h) w = exp_written h (rest_left w)
    exp_written (sizeof_type h) w = let r = type_written h (rest_left (rest_left w)) in (r.0, (rest_left r.1))
    exp_written (cast h k) w = let r = type_written h (rest_left w) in let q = exp_written k (rest_left r.1) in ((r.0, q.0), q.1)
    exp_written (binary h k) w = let r = exp_written h w in let q = exp_written k (rest_left r.1) in ((r.0, q.0), q.1)
    exp_written (conditional h k m) w = let r = exp_written h w in let q = exp_written k (rest_left r.1) in let p = exp_written m (rest_left q.1) in ((r.0, q.0, p.0), p.1)

    pub type_written : {ns : List Name} {b : Bool} {y : TypeName} {s t : List Lexeme} → SpellsType ns b y s t → Left n s → IsTypeName y × Left n t
    type_written (typed h k) w = let r = words_written h w in (r.0, stars_kinds k r.1)

    pub words_written : {ns : List Name} {b : Bool} {q : Seen} {ws : Words} {s t : List Lexeme} → SpellsWords ns b q ws s t → Left n s → AreWords ws × Left n t
    words_written (no_words c) w = (tt, w)
    words_written (plain_word c h) w = let r = words_written h (rest_left w) in ((tt, r.0), r.1)
    words_written (type_name c h) w = let r = words_written h (rest_left w) in ((tt, r.0), r.1)
    words_written (struct_tag c h) w = let r = words_written h (rest_left (rest_left w)) in ((first_left (rest_left w), r.0), r.1)
    words_written (struct_body m h) w = let p = members_written m (rest_left (rest_left w)) in let r = words_written h p.1 in (((tt, p.0), r.0), r.1)
    words_written (tagged_struct c m h) w = let p = members_written m (rest_left (rest_left (rest_left w))) in let r = words_written h p.1 in (((first_left (rest_left w), p.0), r.0), r.1)
    words_written (enum_tag c h) w = let r = words_written h (rest_left (rest_left w)) in ((tt, r.0), r.1)
    words_written (enum_body m h) w = let p = enumerators_written m (rest_left (rest_left w)) in let r = words_written h p.1 in ((p.0, r.0), r.1)
    words_written (tagged_enum c m h) w = let p = enumerators_written m (rest_left (rest_left (rest_left w))) in let r = words_written h p.1 in ((p.0, r.0), r.1)

    members_written : {ns : List Name} {ms : Members} {s t : List Lexeme} → SpellsMembers ns ms s t → Left n s → AreMembers ms × Left n t
    members_written (last_member h k) w = let r = words_written h w in let p = declarators_written k r.1 in ((r.0, p.0), (rest_left p.1))
    members_written (more_members h k m) w = let r = words_written h w in let p = declarators_written k r.1 in let q = members_written m p.1 in ((r.0, p.0, q.0), q.1)

    declarators_written : {ns : List Name} {ds : Declarators} {s t : List Lexeme} → SpellsDeclarators ns ds s t → Left n s → AreDeclarators ds × Left n t
    declarators_written (last_declarator h) w = let r = declarator_written h w in (r.0, (rest_left r.1))
    declarators_written (more_declarators h k) w = let r = declarator_written h w in let p = declarators_written k (rest_left r.1) in ((r.0, p.0), p.1)

    pub declarator_written : {ns : List Name} {b : Bool} {d : Declarator} {s t : List Lexeme} → SpellsDeclarator ns b d s t → Left n s → IsDeclarator d × Left n t
    declarator_written (declare h c k) w = let r = stars_kinds h w in let p = dimensions_written k (rest_left r) in ((first_left r, p.0), p.1)

    pub dimensions_written : {ns : List Name} {b : Bool} {ds : Dimensions} {s t : List Lexeme} → SpellsDimensions ns b ds s t → Left n s → AreDimensions ds × Left n t
    dimensions_written no_dimensions w = (tt, w)
    dimensions_written (more_dimensions h k) w = let r = exp_written h (rest_left w) in let p = dimensions_written k (rest_left r.1) in ((r.0, p.0), p.1)

    enumerators_written : {ns : List Name} {es : Enumerators} {s t : List Lexeme} → SpellsEnumerators ns es s t → Left n s → AreEnumerators es × Left n t
    enumerators_written (last_enumerator h) w = let r = enumerator_written h w in (r.0, (rest_left r.1))
    enumerators_written (last_enumerator_comma h) w = let r = enumerator_written h w in (r.0, (rest_left (rest_left r.1)))
    enumerators_written (more_enumerators h k) w = let r = enumerator_written h w in let p = enumerators_written k (rest_left r.1) in ((r.0, p.0), p.1)

    enumerator_written : {ns : List Name} {e : Enumerator} {s t : List Lexeme} → SpellsEnumerator ns e s t → Left n s → IsEnumerator e × Left n t
    enumerator_written (implicit c) w = (tt, (rest_left w))
    enumerator_written (explicit c h) w = exp_written h (rest_left (rest_left w))
