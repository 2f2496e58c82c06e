-- The choices of structs, enums and declarators keep what the stack means.
use Rattle.std.proofs.Common.{ℕ, ◌≡◌, Bool, true, false, List, [], ◌∷◌, Some, None, refl}
use Rattle.c_lex.specs.declared.token.Keyword.TheVariants as word
use Rattle.c_lex.specs.declared.token.Punct.TheVariants as sign
use Rattle.c_lex.specs.Lexeme.{Lexeme, Kind, name, keyword, punct}
use Rattle.c_grammar.specs.declared.symbol.Seen.TheVariants as seen
use Rattle.c_grammar.specs.declared.symbol.Production.TheVariants as ends
use Rattle.c_grammar.specs.declared.symbol.Symbol.TheVariants as symbol
use Rattle.c_grammar.specs.Tree as tree
use Rattle.c_grammar.specs.Tree.{Name, Words}
use Rattle.c_grammar.specs.Operators.{is_made}
use Rattle.c_grammar.specs.Spells as spells
use Rattle.c_grammar.specs.Spells.{token, named, mark, reserved}
use Rattle.c_grammar.specs.CodeChoice as choice
use Rattle.c_grammar.specs.CodeChoice.{Refuse, take, expression, declarator}
use Rattle.c_grammar.specs.CodeStack.{is_type}
use Rattle.c_grammar.proofs.Means.{is_mark, is_name, same, Means, plain, All, nil, cons, Sound, then_sound, if_sound}
use Rattle.c_grammar.proofs.SoundExpressions.{words_sound}

-- Structs, enums and declarators.

struct_name_row : {ns next ns2 next2 : List Name} {s u : List Lexeme} (b : Bool) (n : Name) (a z : ℕ) → is_made ns n ≡ false → All ns next (symbol.StructBody b ∷ []) s u ns2 next2 → Means ns next (symbol.StructTag b) (named n a z ∷ s) u ns2 next2
struct_name_row b n a z h (cons (plain m) nil) = plain (λ a1 z1 ws v d. m n a1 z1 a z ws v h d)

struct_body_row : {ns next ns2 next2 : List Name} {s u : List Lexeme} (a z : ℕ) → All ns next (symbol.Members ∷ symbol.End ends.StructBody ∷ []) s u ns2 next2 → Means ns next (symbol.StructTag true) (mark sign.LeftBrace a z ∷ s) u ns2 next2
struct_body_row a z (cons (plain (ms, d)) (cons (plain same) nil)) = plain (λ a1 z1 ws v f. (tree.MoreWords (tree.StructBody a1 None ms) ws, spells.struct_body d f))

tagged_struct_row : {ns next ns2 next2 : List Name} {s u : List Lexeme} (a z : ℕ) → All ns next (symbol.Members ∷ symbol.End ends.TaggedStruct ∷ []) s u ns2 next2 → Means ns next (symbol.StructBody true) (mark sign.LeftBrace a z ∷ s) u ns2 next2
tagged_struct_row a z (cons (plain (ms, d)) (cons (plain same) nil)) = plain (λ n a1 z1 a2 z2 ws v h f. (tree.MoreWords (tree.StructBody a1 (Some n) ms) ws, spells.tagged_struct h d f))

pub struct_tag_sound : (ns next : List Name) (b : Bool) (k : Kind) (a z : ℕ) → Sound ns next (symbol.StructTag b) (token k a z) (choice.struct_tag b (is_type ns k) k)
struct_tag_sound ns next b (name n) a z = if_sound ns next (symbol.StructTag b) (named n a z) (is_made ns n) Refuse (take (symbol.StructBody b ∷ [])) (λ h. tt) (λ h s u ns2 next2 all. struct_name_row b n a z h all)
struct_tag_sound ns next true (punct sign.LeftBrace) a z = λ s u ns2 next2 all. struct_body_row a z all
struct_tag_sound ns next false (punct sign.LeftBrace) a z = tt
struct_tag_sound ns next b k a z = tt

pub struct_body_sound : (ns next : List Name) (b : Bool) (k : Kind) (a z : ℕ) → Sound ns next (symbol.StructBody b) (token k a z) (choice.struct_body b k)
struct_body_sound ns next true (punct sign.LeftBrace) a z = λ s u ns2 next2 all. tagged_struct_row a z all
struct_body_sound ns next false (punct sign.LeftBrace) a z = λ s. plain (λ n a1 z1 a2 z2 ws v h f. (tree.MoreWords (tree.StructTag a1 n) ws, spells.struct_tag h f))
struct_body_sound ns next b k a z = λ s. plain (λ n a1 z1 a2 z2 ws v h f. (tree.MoreWords (tree.StructTag a1 n) ws, spells.struct_tag h f))

enum_name_row : {ns next ns2 next2 : List Name} {s u : List Lexeme} (b : Bool) (n : Name) (a z : ℕ) → is_made ns n ≡ false → All ns next (symbol.EnumBody b ∷ []) s u ns2 next2 → Means ns next (symbol.EnumTag b) (named n a z ∷ s) u ns2 next2
enum_name_row b n a z h (cons (plain m) nil) = plain (λ a1 z1 ws v d. m n a1 z1 a z ws v h d)

enum_body_row : {ns next ns2 next2 : List Name} {s u : List Lexeme} (a z : ℕ) → All ns next (symbol.Enumerators ∷ symbol.End ends.EnumBody ∷ []) s u ns2 next2 → Means ns next (symbol.EnumTag true) (mark sign.LeftBrace a z ∷ s) u ns2 next2
enum_body_row a z (cons (plain (ms, d)) (cons (plain same) nil)) = plain (λ a1 z1 ws v f. (tree.MoreWords (tree.EnumBody a1 None ms) ws, spells.enum_body d f))

tagged_enum_row : {ns next ns2 next2 : List Name} {s u : List Lexeme} (a z : ℕ) → All ns next (symbol.Enumerators ∷ symbol.End ends.TaggedEnum ∷ []) s u ns2 next2 → Means ns next (symbol.EnumBody true) (mark sign.LeftBrace a z ∷ s) u ns2 next2
tagged_enum_row a z (cons (plain (ms, d)) (cons (plain same) nil)) = plain (λ n a1 z1 a2 z2 ws v h f. (tree.MoreWords (tree.EnumBody a1 (Some n) ms) ws, spells.tagged_enum h d f))

pub enum_tag_sound : (ns next : List Name) (b : Bool) (k : Kind) (a z : ℕ) → Sound ns next (symbol.EnumTag b) (token k a z) (choice.enum_tag b (is_type ns k) k)
enum_tag_sound ns next b (name n) a z = if_sound ns next (symbol.EnumTag b) (named n a z) (is_made ns n) Refuse (take (symbol.EnumBody b ∷ [])) (λ h. tt) (λ h s u ns2 next2 all. enum_name_row b n a z h all)
enum_tag_sound ns next true (punct sign.LeftBrace) a z = λ s u ns2 next2 all. enum_body_row a z all
enum_tag_sound ns next false (punct sign.LeftBrace) a z = tt
enum_tag_sound ns next b k a z = tt

pub enum_body_sound : (ns next : List Name) (b : Bool) (k : Kind) (a z : ℕ) → Sound ns next (symbol.EnumBody b) (token k a z) (choice.enum_body b k)
enum_body_sound ns next true (punct sign.LeftBrace) a z = λ s u ns2 next2 all. tagged_enum_row a z all
enum_body_sound ns next false (punct sign.LeftBrace) a z = λ s. plain (λ n a1 z1 a2 z2 ws v h f. (tree.MoreWords (tree.EnumTag a1 n) ws, spells.enum_tag h f))
enum_body_sound ns next b k a z = λ s. plain (λ n a1 z1 a2 z2 ws v h f. (tree.MoreWords (tree.EnumTag a1 n) ws, spells.enum_tag h f))

members_row : {ns next ns1 next1 ns2 next2 : List Name} {s m u : List Lexeme} (x : Lexeme) → Means ns next (symbol.Words false seen.Nothing) (x ∷ s) m ns1 next1 → All ns1 next1 (declarator false (symbol.DeclaratorsMore ∷ symbol.MembersMore ∷ [])) m u ns2 next2 → Means ns next symbol.Members (x ∷ s) u ns2 next2
members_row x (plain (ws, d)) (cons (plain (ats, g)) (cons (plain (is_name {n = n} {a = a1} h)) (cons (plain (dims, f)) (cons (plain same) (cons (plain i) (cons (plain j) nil)))))) = let p = i (tree.Declare ats a1 n dims) _ (spells.declare g h f) in plain (j ws p.0 _ _ d p.1)

pub members_sound : (ns next : List Name) (k : Kind) (a z : ℕ) → Sound ns next symbol.Members (token k a z) (choice.members (is_type ns k) k)
members_sound ns next k a z = then_sound ns next symbol.Members (symbol.Words false seen.Nothing) (token k a z) (choice.words false seen.Nothing (is_type ns k) k) (declarator false (symbol.DeclaratorsMore ∷ symbol.MembersMore ∷ [])) (words_sound ns next false seen.Nothing k a z) refl (λ s m u ns1 next1 ns2 next2 first all. members_row (token k a z) first all)

last_member_row : {ns next ns2 next2 : List Name} {s u : List Lexeme} (a z : ℕ) → All ns next (symbol.End ends.LastMember ∷ []) s u ns2 next2 → Means ns next symbol.MembersMore (mark sign.RightBrace a z ∷ s) u ns2 next2
last_member_row a z (cons (plain same) nil) = plain (λ ws ds v v1 d f. (tree.LastMember ws ds, spells.last_member d f))

more_members_row : {ns next ns1 next1 ns2 next2 : List Name} {s m u : List Lexeme} (x : Lexeme) → Means ns next (symbol.Words false seen.Nothing) (x ∷ s) m ns1 next1 → All ns1 next1 (declarator false (symbol.DeclaratorsMore ∷ symbol.MembersMore ∷ symbol.End ends.MoreMembers ∷ [])) m u ns2 next2 → Means ns next symbol.MembersMore (x ∷ s) u ns2 next2
more_members_row x (plain (ws, d)) (cons (plain (ats, g)) (cons (plain (is_name {n = n} {a = a1} h)) (cons (plain (dims, f)) (cons (plain same) (cons (plain i) (cons (plain j) (cons (plain same) nil))))))) = plain (λ ws0 ds0 v v1 d0 f0. let p = i (tree.Declare ats a1 n dims) _ (spells.declare g h f) in let q = j ws p.0 _ _ d p.1 in (tree.MoreMembers ws0 ds0 q.0, spells.more_members d0 f0 q.1))

pub members_more_sound : (ns next : List Name) (k : Kind) (a z : ℕ) → Sound ns next symbol.MembersMore (token k a z) (choice.members_more (is_type ns k) k)
members_more_sound ns next (punct sign.RightBrace) a z = λ s u ns2 next2 all. last_member_row a z all
members_more_sound ns next k a z = then_sound ns next symbol.MembersMore (symbol.Words false seen.Nothing) (token k a z) (choice.words false seen.Nothing (is_type ns k) k) (declarator false (symbol.DeclaratorsMore ∷ symbol.MembersMore ∷ symbol.End ends.MoreMembers ∷ [])) (words_sound ns next false seen.Nothing k a z) refl (λ s m u ns1 next1 ns2 next2 first all. more_members_row (token k a z) first all)

last_declarator_row : {ns next ns2 next2 : List Name} {s u : List Lexeme} (a z : ℕ) → All ns next (symbol.End ends.LastDeclarator ∷ []) s u ns2 next2 → Means ns next symbol.DeclaratorsMore (mark sign.Semicolon a z ∷ s) u ns2 next2
last_declarator_row a z (cons (plain same) nil) = plain (λ d v f. (tree.LastDeclarator d, spells.last_declarator f))

more_declarators_row : {ns next ns2 next2 : List Name} {s u : List Lexeme} (a z : ℕ) → All ns next (declarator false (symbol.DeclaratorsMore ∷ symbol.End ends.MoreDeclarators ∷ [])) s u ns2 next2 → Means ns next symbol.DeclaratorsMore (mark sign.Comma a z ∷ s) u ns2 next2
more_declarators_row a z (cons (plain (ats, g)) (cons (plain (is_name {n = n} {a = a1} h)) (cons (plain (dims, f)) (cons (plain same) (cons (plain i) (cons (plain same) nil)))))) = plain (λ d0 v f0. let p = i (tree.Declare ats a1 n dims) _ (spells.declare g h f) in (tree.MoreDeclarators d0 p.0, spells.more_declarators f0 p.1))

pub declarators_more_sound : (ns next : List Name) (k : Kind) (a z : ℕ) → Sound ns next symbol.DeclaratorsMore (token k a z) (choice.declarators_more k)
declarators_more_sound ns next (punct sign.Comma) a z = λ s u ns2 next2 all. more_declarators_row a z all
declarators_more_sound ns next (punct sign.Semicolon) a z = λ s u ns2 next2 all. last_declarator_row a z all
declarators_more_sound ns next k a z = tt

star_row : {ns next ns2 next2 : List Name} {s u : List Lexeme} (f0 : Bool) (a z : ℕ) → All ns next (symbol.Stars true ∷ symbol.End ends.MoreStars ∷ []) s u ns2 next2 → Means ns next (symbol.Stars f0) (mark sign.Star a z ∷ s) u ns2 next2
star_row f0 a z (cons (plain (ats, d)) (cons (plain same) nil)) = plain (a ∷ ats, spells.star d)

star_const_row : {ns next ns2 next2 : List Name} {s u : List Lexeme} (a z : ℕ) → All ns next (symbol.End ends.StarConst ∷ symbol.Stars true ∷ []) s u ns2 next2 → Means ns next (symbol.Stars true) (reserved word.Const a z ∷ s) u ns2 next2
star_const_row a z (cons (plain same) (cons (plain (ats, d)) nil)) = plain (ats, spells.star_const d)

pub stars_sound : (ns next : List Name) (f : Bool) (k : Kind) (a z : ℕ) → Sound ns next (symbol.Stars f) (token k a z) (choice.stars f k)
stars_sound ns next f (punct sign.Star) a z = λ s u ns2 next2 all. star_row f a z all
stars_sound ns next true (keyword word.Const) a z = λ s u ns2 next2 all. star_const_row a z all
stars_sound ns next false (keyword word.Const) a z = λ s. plain ([], spells.no_stars)
stars_sound ns next f k a z = λ s. plain ([], spells.no_stars)

dimensions_row : {ns next ns2 next2 : List Name} {s u : List Lexeme} (b : Bool) (a z : ℕ) → All ns next (expression b 0 ∷ symbol.RightBracket ∷ symbol.Dimensions b ∷ symbol.End ends.MoreDimensions ∷ []) s u ns2 next2 → Means ns next (symbol.Dimensions b) (mark sign.LeftBracket a z ∷ s) u ns2 next2
dimensions_row b a z (cons (plain f) (cons (plain is_mark) (cons (plain (dims, d)) (cons (plain same) nil)))) = let p = f refl in plain (tree.MoreDimensions p.0 dims, spells.more_dimensions p.1 d)

pub dimensions_sound : (ns next : List Name) (b : Bool) (k : Kind) (a z : ℕ) → Sound ns next (symbol.Dimensions b) (token k a z) (choice.dimensions b k)
dimensions_sound ns next b (punct sign.LeftBracket) a z = λ s u ns2 next2 all. dimensions_row b a z all
dimensions_sound ns next b k a z = λ s. plain (tree.NoDimensions, spells.no_dimensions)

enumerators_row : {ns next ns2 next2 : List Name} {s u : List Lexeme} (n : Name) (a z : ℕ) → is_made ns n ≡ false → All ns next (symbol.EnumValue ∷ symbol.EnumMore ∷ []) s u ns2 next2 → Means ns next symbol.Enumerators (named n a z ∷ s) u ns2 next2
enumerators_row n a z h (cons (plain f) (cons (plain g) nil)) = let p = f n a z h in plain (g p.0 _ p.1)

pub enumerators_sound : (ns next : List Name) (k : Kind) (a z : ℕ) → Sound ns next symbol.Enumerators (token k a z) (choice.enumerators (is_type ns k) k)
enumerators_sound ns next (name n) a z = if_sound ns next symbol.Enumerators (named n a z) (is_made ns n) Refuse (take (symbol.EnumValue ∷ symbol.EnumMore ∷ [])) (λ h. tt) (λ h s u ns2 next2 all. enumerators_row n a z h all)
enumerators_sound ns next k a z = tt

explicit_row : {ns next ns2 next2 : List Name} {s u : List Lexeme} (a z : ℕ) → All ns next (expression true 0 ∷ symbol.End ends.Explicit ∷ []) s u ns2 next2 → Means ns next symbol.EnumValue (mark sign.Equal a z ∷ s) u ns2 next2
explicit_row a z (cons (plain f) (cons (plain same) nil)) = plain (λ n a1 z1 h. let p = f refl in (tree.Explicit a1 n p.0, spells.explicit h p.1))

pub enum_value_sound : (ns next : List Name) (k : Kind) (a z : ℕ) → Sound ns next symbol.EnumValue (token k a z) (choice.enum_value k)
enum_value_sound ns next (punct sign.Equal) a z = λ s u ns2 next2 all. explicit_row a z all
enum_value_sound ns next k a z = λ s. plain (λ n a1 z1 h. (tree.Implicit a1 n, spells.implicit h))

enum_comma_row : {ns next ns2 next2 : List Name} {s u : List Lexeme} (a z : ℕ) → All ns next (symbol.EnumNext ∷ []) s u ns2 next2 → Means ns next symbol.EnumMore (mark sign.Comma a z ∷ s) u ns2 next2
enum_comma_row a z (cons (plain f) nil) = plain (λ en v d. f en v a z d)

last_enumerator_row : {ns next ns2 next2 : List Name} {s u : List Lexeme} (a z : ℕ) → All ns next (symbol.End ends.LastEnumerator ∷ []) s u ns2 next2 → Means ns next symbol.EnumMore (mark sign.RightBrace a z ∷ s) u ns2 next2
last_enumerator_row a z (cons (plain same) nil) = plain (λ en v d. (tree.LastEnumerator en, spells.last_enumerator d))

pub enum_more_sound : (ns next : List Name) (k : Kind) (a z : ℕ) → Sound ns next symbol.EnumMore (token k a z) (choice.enum_more k)
enum_more_sound ns next (punct sign.Comma) a z = λ s u ns2 next2 all. enum_comma_row a z all
enum_more_sound ns next (punct sign.RightBrace) a z = λ s u ns2 next2 all. last_enumerator_row a z all
enum_more_sound ns next k a z = tt

enum_next_row : {ns next ns2 next2 : List Name} {s u : List Lexeme} (n : Name) (a z : ℕ) → is_made ns n ≡ false → All ns next (symbol.EnumValue ∷ symbol.EnumMore ∷ symbol.End ends.MoreEnumerators ∷ []) s u ns2 next2 → Means ns next symbol.EnumNext (named n a z ∷ s) u ns2 next2
enum_next_row n a z h (cons (plain f) (cons (plain g) (cons (plain same) nil))) = plain (λ en v a1 z1 d. let p = f n a z h in let q = g p.0 _ p.1 in (tree.MoreEnumerators en q.0, spells.more_enumerators d q.1))

enum_end_row : {ns next ns2 next2 : List Name} {s u : List Lexeme} (a z : ℕ) → All ns next (symbol.End ends.LastEnumeratorComma ∷ []) s u ns2 next2 → Means ns next symbol.EnumNext (mark sign.RightBrace a z ∷ s) u ns2 next2
enum_end_row a z (cons (plain same) nil) = plain (λ en v a1 z1 d. (tree.LastEnumerator en, spells.last_enumerator_comma d))

pub enum_next_sound : (ns next : List Name) (k : Kind) (a z : ℕ) → Sound ns next symbol.EnumNext (token k a z) (choice.enum_next (is_type ns k) k)
enum_next_sound ns next (name n) a z = if_sound ns next symbol.EnumNext (named n a z) (is_made ns n) Refuse (take (symbol.EnumValue ∷ symbol.EnumMore ∷ symbol.End ends.MoreEnumerators ∷ [])) (λ h. tt) (λ h s u ns2 next2 all. enum_next_row n a z h all)
enum_next_sound ns next (punct sign.RightBrace) a z = λ s u ns2 next2 all. enum_end_row a z all
enum_next_sound ns next k a z = tt
