-- What a change makes of others is what a comparison finds.
use Rattle.std.specs.Prelude.{◌&&◌, nat_eq, bytes_eq}
use Rattle.std.specs.Cmp.Lexicographic.{pointwise, bytes_decides}
use Rattle.std.proofs.Common.{◌≡◌, ℕ, Bool, true, false, cond, List, [], ◌∷◌, map, option_map, Option, Some, None, refl, ap, subst}
use Rattle.std.proofs.lemmas.Bool.{and_from, eq-eqb}
use Rattle.bt_bib.specs.contracts.fault.ItemFaultPartialEq.TheImpl as fault_comparison
use Rattle.bt_bib.specs.contracts.fault.NameRolePartialEq.TheImpl as role_comparison
use Rattle.bt_bib.specs.contracts.item.ClosingPartialEq.TheImpl as closing_comparison
use Rattle.bt_bib.specs.declared.fault.ItemFault.{ItemFault}
use Rattle.bt_bib.specs.declared.fault.ItemFault.TheVariants.{EndOfFile, MissingName, BadNameEnd, ExpectedOpen, ExpectedCommaOrClose, ExpectedEquals, UnbalancedBraces, MissingPart}
use Rattle.bt_bib.specs.declared.fault.NameRole.{NameRole}
use Rattle.bt_bib.specs.declared.fault.NameRole.TheVariants.{EntryType, StringName, FieldName, FieldPart}
use Rattle.bt_bib.specs.declared.item.Closing.{Closing}
use Rattle.bt_bib.specs.declared.item.Closing.TheVariants.{Brace, Parenthesis}
use Rattle.bt_bib.specs.declared.item.Part.{Part}
use Rattle.bt_bib.specs.declared.item.Part.TheVariants.{Text, Macro}
use Rattle.bt_bib.specs.declared.item.Field.{Field}
use Rattle.bt_bib.specs.declared.item.Content.{Content}
use Rattle.bt_bib.specs.declared.item.Content.TheVariants.{Entry, Define, Preamble}
use Rattle.bt_bib.specs.declared.item.Item.{Item}
use Rattle.bt_bib.specs.declared.item.Piece.{Piece}
use Rattle.bt_bib.specs.declared.item.Piece.TheVariants as pieces
use Rattle.bt_bib.specs.declared.placed_pieces.PlacedPiece.{PlacedPiece}
use Rattle.bt_edited.specs.declared.changes.Change.{Change}
use Rattle.bt_edited.specs.declared.changes.Change.TheVariants as changes
use Rattle.bt_edited.specs.Changes.{key_after, macro_after, rekeyed_value, is_crossref, text_or, crossref_after, part_after, value_after, field_after, content_after, item_after, piece_after}
use Rattle.bt_edited.specs.Becomes.{same_text, same_fault, same_closing, key_becomes, macro_becomes, part_becomes, value_becomes, any_value_becomes, is_text, text_or_value_becomes, reference_becomes, field_becomes, content_becomes, item_becomes, piece_becomes, placed_becomes, pieces_become}
use Rattle.bt_edited.specs.laws.Laws.{bare_part, bare_value, bare_field, bare_content, bare_item, bare}

role_same : (a : NameRole) → (role_comparison.ghosts).eq a a ≡ true
role_same EntryType = refl
role_same StringName = refl
role_same FieldName = refl
role_same FieldPart = refl

fault_same : (a : ItemFault) → (fault_comparison.ghosts).eq a a ≡ true
fault_same EndOfFile = refl
fault_same (MissingName r) = role_same r
fault_same (BadNameEnd r x) = and_from ((role_comparison.ghosts).eq r r) (nat_eq x x) (role_same r) (eq-eqb x x refl)
fault_same ExpectedOpen = refl
fault_same ExpectedCommaOrClose = refl
fault_same ExpectedEquals = refl
fault_same UnbalancedBraces = refl
fault_same MissingPart = refl

closing_same : (a : Closing) → (closing_comparison.ghosts).eq a a ≡ true
closing_same Brace = refl
closing_same Parenthesis = refl

some_is : {A : Type 0} (a b : A) → Some a ≡ Some b → a ≡ b
some_is a b h = cc

first_is : {A : Type 0} (a b : A) (xs ys : List A) → a ∷ xs ≡ b ∷ ys → a ≡ b
first_is a b xs ys h = cc

rest_is : {A : Type 0} (a b : A) (xs ys : List A) → a ∷ xs ≡ b ∷ ys → xs ≡ ys
rest_is a b xs ys h = cc

texts_same : (a b : Option (List ℕ)) → a ≡ b → same_text a b ≡ true
texts_same None None h = refl
texts_same (Some a) (Some b) h = (bytes_decides a b).1 (some_is a b h)
texts_same a b h = absurd (cc)

faults_same : (a b : Option ItemFault) → a ≡ b → same_fault a b ≡ true
faults_same None None h = refl
faults_same (Some a) (Some b) h = subst (λ x. (fault_comparison.ghosts).eq a x ≡ true) (some_is a b h) (fault_same a)
faults_same a b h = absurd (cc)

closings_same : (a b : Option Closing) → a ≡ b → same_closing a b ≡ true
closings_same None None h = refl
closings_same (Some a) (Some b) h = subst (λ x. (closing_comparison.ghosts).eq a x ≡ true) (some_is a b h) (closing_same a)
closings_same a b h = absurd (cc)

text_is : (t u : List ℕ) → Text t ≡ Text u → t ≡ u
text_is t u h = cc

macro_is : (t u : List ℕ) → Macro t 0 ≡ Macro u 0 → t ≡ u
macro_is t u h = cc

part_found : (c : Change) (p q : Part) → bare_part (part_after c p) ≡ bare_part q → part_becomes c p q ≡ true
part_found c (Text t) (Text u) h = (bytes_decides t u).1 (text_is t u h)
part_found c (Macro n l) (Macro m k) h = (bytes_decides (macro_after c n) m).1 (macro_is (macro_after c n) m h)
part_found c p q h = absurd (cc)

value_found : (c : Change) (ps qs : List Part) → bare_value (value_after c ps) ≡ bare_value qs → value_becomes c ps qs ≡ true
value_found c [] [] h = refl
value_found c (p ∷ ps) (q ∷ qs) h =
    and_from (part_becomes c p q) (value_becomes c ps qs) (part_found c p q (first_is _ _ (bare_value (value_after c ps)) (bare_value qs) h)) (value_found c ps qs (rest_is (bare_part (part_after c p)) (bare_part q) _ _ h))
value_found c ps qs h = absurd (cc)

text_found : (c : Change) (text : List ℕ) (qs : List Part) → bare_value (value_after c (Text text ∷ [])) ≡ bare_value qs → is_text text qs ≡ true
text_found c text [] h = absurd (cc)
text_found c text (Text other ∷ []) h = (bytes_decides text other).1 (text_is text other (first_is (Text text) (Text other) [] [] h))
text_found c text (Macro n l ∷ qs) h = absurd (cc)
text_found c text (q ∷ (r ∷ qs)) h = absurd (cc)

key_found : (o : Option (List ℕ)) (c : Change) (ps qs : List Part) → bare_value (value_after c (text_or o ps)) ≡ bare_value qs → text_or_value_becomes c o ps qs ≡ true
key_found None c ps qs h = value_found c ps qs h
key_found (Some text) c ps qs h = text_found c text qs h

reference_found : (c : Change) (ps qs : List Part) → bare_value (value_after c (crossref_after c ps)) ≡ bare_value qs → reference_becomes c ps qs ≡ true
reference_found changes.Nothing ps qs h = value_found changes.Nothing ps qs h
reference_found (changes.Key old new) ps qs h = key_found (rekeyed_value old new ps) (changes.Key old new) ps qs h
reference_found (changes.Macro old new) ps qs h = value_found (changes.Macro old new) ps qs h

field_value_found : (is : Bool) (c : Change) (ps qs : List Part) → bare_value (value_after c (cond is (crossref_after c ps) ps)) ≡ bare_value qs →
    cond is (reference_becomes c ps qs) (value_becomes c ps qs) ≡ true
field_value_found true c ps qs h = reference_found c ps qs h
field_value_found false c ps qs h = value_found c ps qs h

field_found : (c : Change) (f g : Field) → bare_field (field_after c f) ≡ bare_field g → field_becomes c f g ≡ true
field_found c f g h =
    let is = is_crossref f.name in
    and_from (bytes_eq f.name g.name) (cond is (reference_becomes c f.value g.value) (value_becomes c f.value g.value))
    ((bytes_decides f.name g.name).1 (ap (λ (x : Field). x.name) h)) (field_value_found is c f.value g.value (ap (λ (x : Field). x.value) h))

fields_found : (c : Change) (fs gs : List Field) → map bare_field (map (field_after c) fs) ≡ map bare_field gs → pointwise (field_becomes c) fs gs ≡ true
fields_found c [] [] h = refl
fields_found c (f ∷ fs) (g ∷ gs) h =
    and_from (field_becomes c f g) (pointwise (field_becomes c) fs gs)
    (field_found c f g (first_is (bare_field (field_after c f)) (bare_field g) (map bare_field (map (field_after c) fs)) (map bare_field gs) h))
    (fields_found c fs gs (rest_is (bare_field (field_after c f)) (bare_field g) (map bare_field (map (field_after c) fs)) (map bare_field gs) h))
fields_found c fs gs h = absurd (cc)

key_name_found : (c : Change) (a b : Option (List ℕ)) → option_map (key_after c) a ≡ b → key_becomes c a b ≡ true
key_name_found c None None h = refl
key_name_found c (Some a) (Some b) h = (bytes_decides (key_after c a) b).1 (some_is (key_after c a) b h)
key_name_found c a b h = absurd (cc)

macro_name_found : (c : Change) (a b : Option (List ℕ)) → option_map (macro_after c) a ≡ b → macro_becomes c a b ≡ true
macro_name_found c None None h = refl
macro_name_found c (Some a) (Some b) h = (bytes_decides (macro_after c a) b).1 (some_is (macro_after c a) b h)
macro_name_found c a b h = absurd (cc)

any_value_found : (c : Change) (a b : Option (List Part)) → option_map bare_value (option_map (value_after c) a) ≡ option_map bare_value b → any_value_becomes c a b ≡ true
any_value_found c None None h = refl
any_value_found c (Some a) (Some b) h = value_found c a b (some_is (bare_value (value_after c a)) (bare_value b) h)
any_value_found c a b h = absurd (cc)

abbrev entry_kind : Content → Option (List ℕ)
entry_kind (Entry e) = e.kind
entry_kind c = None

abbrev entry_key : Content → Option (List ℕ)
entry_key (Entry e) = e.key
entry_key c = None

abbrev entry_fields : Content → List Field
entry_fields (Entry e) = e.fields
entry_fields c = []

abbrev definition_name : Content → Option (List ℕ)
definition_name (Define d) = d.name
definition_name c = None

abbrev value_of : Content → Option (List Part)
value_of (Define d) = d.value
value_of (Preamble v) = v
value_of c = None

content_found : (c : Change) (a b : Content) → bare_content (content_after c a) ≡ bare_content b → content_becomes c a b ≡ true
content_found c (Entry e) (Entry f) h =
    and_from (same_text e.kind f.kind && key_becomes c e.key f.key) (pointwise (field_becomes c) e.fields f.fields)
    (and_from (same_text e.kind f.kind) (key_becomes c e.key f.key) (texts_same e.kind f.kind (ap entry_kind h)) (key_name_found c e.key f.key (ap entry_key h)))
    (fields_found c e.fields f.fields (ap entry_fields h))
content_found c (Define d) (Define e) h =
    and_from (macro_becomes c d.name e.name) (any_value_becomes c d.value e.value) (macro_name_found c d.name e.name (ap definition_name h)) (any_value_found c d.value e.value (ap value_of h))
content_found c (Preamble a) (Preamble b) h = any_value_found c a b (ap value_of h)
content_found c a b h = absurd (cc)

item_found : (c : Change) (a b : Item) → bare_item (item_after c a) ≡ bare_item b → item_becomes c a b ≡ true
item_found c a b h =
    and_from (content_becomes c a.content b.content && same_closing a.close b.close) (same_fault a.fault b.fault)
    (and_from (content_becomes c a.content b.content) (same_closing a.close b.close) (content_found c a.content b.content (ap (λ (x : Item). x.content) h)) (closings_same a.close b.close (ap (λ (x : Item). x.close) h)))
    (faults_same a.fault b.fault (ap (λ (x : Item). x.fault) h))

item_is : (a b : Item) → pieces.Item a ≡ pieces.Item b → a ≡ b
item_is a b h = cc

piece_found : (c : Change) (a b : Piece) → bare (piece_after c a) ≡ bare b → piece_becomes c a b ≡ true
piece_found c pieces.Comment pieces.Comment h = refl
piece_found c (pieces.Item a) (pieces.Item b) h = item_found c a b (item_is (bare_item (item_after c a)) (bare_item b) h)
piece_found c a b h = absurd (cc)

abbrev after : Change → List PlacedPiece → List Piece
after c ps = map (λ (p : PlacedPiece). bare (piece_after c p.piece)) ps

abbrev found : List PlacedPiece → List Piece
found ps = map (λ (p : PlacedPiece). bare p.piece) ps

pub all_found : (c : Change) (ps qs : List PlacedPiece) → after c ps ≡ found qs → pieces_become c ps qs ≡ true
all_found c [] [] h = refl
all_found c (p ∷ ps) (q ∷ qs) h =
    and_from (placed_becomes c p q) (pieces_become c ps qs) (piece_found c p.piece q.piece (first_is (bare (piece_after c p.piece)) (bare q.piece) (after c ps) (found qs) h))
    (all_found c ps qs (rest_is (bare (piece_after c p.piece)) (bare q.piece) (after c ps) (found qs) h))
all_found c ps qs h = absurd (cc)
