-- What a comparison finds that a change makes of others is what the change makes of them.
use Rattle.std.specs.Prelude.{◌&&◌, nat_eq, bytes_eq}
use Rattle.std.specs.Cmp.Lexicographic.{pointwise, bytes_decides}
use Rattle.std.proofs.Common.{◌≡◌, ℕ, Bool, true, false, cond, List, [], ◌∷◌, map, option_map, Option, Some, None, refl, ap}
use Rattle.std.proofs.lemmas.Bool.{false≢true, and_parts, eqb-true}
use Rattle.bt_bib.specs.contracts.fault.ItemFaultPartialEq.TheImpl as fault_comparison
use Rattle.bt_bib.specs.contracts.fault.NameRolePartialEq.TheImpl as role_comparison
use Rattle.bt_bib.specs.contracts.item.ClosingPartialEq.TheImpl as closing_comparison
use Rattle.bt_bib.specs.declared.fault.ItemFault.{ItemFault}
use Rattle.bt_bib.specs.declared.fault.ItemFault.TheVariants.{EndOfFile, MissingName, BadNameEnd, ExpectedOpen, ExpectedCommaOrClose, ExpectedEquals, UnbalancedBraces, MissingPart}
use Rattle.bt_bib.specs.declared.fault.NameRole.{NameRole}
use Rattle.bt_bib.specs.declared.fault.NameRole.TheVariants.{EntryType, StringName, FieldName, FieldPart}
use Rattle.bt_bib.specs.declared.item.Closing.{Closing}
use Rattle.bt_bib.specs.declared.item.Closing.TheVariants.{Brace, Parenthesis}
use Rattle.bt_bib.specs.declared.item.Part.{Part}
use Rattle.bt_bib.specs.declared.item.Part.TheVariants.{Text, Macro}
use Rattle.bt_bib.specs.declared.item.Field.{Field}
use Rattle.bt_bib.specs.declared.item.Content.{Content}
use Rattle.bt_bib.specs.declared.item.Content.TheVariants.{Entry, Define, Preamble}
use Rattle.bt_bib.specs.declared.item.Item.{Item}
use Rattle.bt_bib.specs.declared.item.Piece.{Piece}
use Rattle.bt_bib.specs.declared.item.Piece.TheVariants as pieces
use Rattle.bt_bib.specs.declared.placed_pieces.PlacedPiece.{PlacedPiece}
use Rattle.bt_edited.specs.declared.changes.Change.{Change}
use Rattle.bt_edited.specs.declared.changes.Change.TheVariants as changes
use Rattle.bt_edited.specs.Changes.{key_after, macro_after, rekeyed_value, is_crossref, text_or, crossref_after, part_after, value_after, field_after, content_after, item_after, piece_after}
use Rattle.bt_edited.specs.Becomes.{same_text, same_fault, same_closing, key_becomes, macro_becomes, part_becomes, value_becomes, any_value_becomes, is_text, text_or_value_becomes, reference_becomes, field_becomes, content_becomes, item_becomes, piece_becomes, placed_becomes, pieces_become}
use Rattle.bt_edited.specs.laws.Laws.{bare_part, bare_value, bare_field, bare_content, bare_item, bare}

-- ---- faults and closing signs

role_told : (a b : NameRole) → (role_comparison.ghosts).eq a b ≡ true → a ≡ b
role_told EntryType EntryType h = refl
role_told StringName StringName h = refl
role_told FieldName FieldName h = refl
role_told FieldPart FieldPart h = refl
role_told a b h = absurd (false≢true h)

fault_told : (a b : ItemFault) → (fault_comparison.ghosts).eq a b ≡ true → a ≡ b
fault_told EndOfFile EndOfFile h = refl
fault_told (MissingName r) (MissingName s) h = ap MissingName (role_told r s h)
fault_told (BadNameEnd r x) (BadNameEnd s y) h =
    (let k = and_parts ((role_comparison.ghosts).eq r s) (nat_eq x y) h in λ i. BadNameEnd (role_told r s k.0 i) (eqb-true x y k.1 i))
fault_told ExpectedOpen ExpectedOpen h = refl
fault_told ExpectedCommaOrClose ExpectedCommaOrClose h = refl
fault_told ExpectedEquals ExpectedEquals h = refl
fault_told UnbalancedBraces UnbalancedBraces h = refl
fault_told MissingPart MissingPart h = refl
fault_told a b h = absurd (false≢true h)

closing_told : (a b : Closing) → (closing_comparison.ghosts).eq a b ≡ true → a ≡ b
closing_told Brace Brace h = refl
closing_told Parenthesis Parenthesis h = refl
closing_told a b h = absurd (false≢true h)

-- ---- values

texts_told : (a b : Option (List ℕ)) → same_text a b ≡ true → a ≡ b
texts_told None None h = refl
texts_told (Some a) (Some b) h = ap Some ((bytes_decides a b).0 h)
texts_told a b h = absurd (false≢true h)

part_told : (c : Change) (p q : Part) → part_becomes c p q ≡ true → bare_part (part_after c p) ≡ bare_part q
part_told c (Text t) (Text u) h = ap Text ((bytes_decides t u).0 h)
part_told c (Macro n l) (Macro m k) h = ap (λ name. Macro name 0) ((bytes_decides (macro_after c n) m).0 h)
part_told c p q h = absurd (false≢true h)

value_told : (c : Change) (ps qs : List Part) → value_becomes c ps qs ≡ true → bare_value (value_after c ps) ≡ bare_value qs
value_told c [] [] h = refl
value_told c (p ∷ ps) (q ∷ qs) h =
    (let k = and_parts (part_becomes c p q) (value_becomes c ps qs) h in λ i. part_told c p q k.0 i ∷ value_told c ps qs k.1 i)
value_told c ps qs h = absurd (false≢true h)

text_told : (c : Change) (text : List ℕ) (qs : List Part) → is_text text qs ≡ true → bare_value (value_after c (Text text ∷ [])) ≡ bare_value qs
text_told c text (Text other ∷ []) h = ap (λ t. Text t ∷ []) ((bytes_decides text other).0 h)
text_told c text qs h = absurd (false≢true h)

key_told : (o : Option (List ℕ)) (c : Change) (ps qs : List Part) → text_or_value_becomes c o ps qs ≡ true → bare_value (value_after c (text_or o ps)) ≡ bare_value qs
key_told None c ps qs h = value_told c ps qs h
key_told (Some text) c ps qs h = text_told c text qs h

reference_told : (c : Change) (ps qs : List Part) → reference_becomes c ps qs ≡ true → bare_value (value_after c (crossref_after c ps)) ≡ bare_value qs
reference_told changes.Nothing ps qs h = value_told changes.Nothing ps qs h
reference_told (changes.Key old new) ps qs h = key_told (rekeyed_value old new ps) (changes.Key old new) ps qs h
reference_told (changes.Macro old new) ps qs h = value_told (changes.Macro old new) ps qs h

field_value_told : (is : Bool) (c : Change) (ps qs : List Part) → cond is (reference_becomes c ps qs) (value_becomes c ps qs) ≡ true →
    bare_value (value_after c (cond is (crossref_after c ps) ps)) ≡ bare_value qs
field_value_told true c ps qs h = reference_told c ps qs h
field_value_told false c ps qs h = value_told c ps qs h

-- ---- items

field_told : (c : Change) (f g : Field) → field_becomes c f g ≡ true → bare_field (field_after c f) ≡ bare_field g
field_told c f g h =
    let is = is_crossref f.name in
    let k = and_parts (bytes_eq f.name g.name) (cond is (reference_becomes c f.value g.value) (value_becomes c f.value g.value)) h in
    λ i. record { name = (bytes_decides f.name g.name).0 k.0 i; line = 0; value = field_value_told is c f.value g.value k.1 i }

fields_told : (c : Change) (fs gs : List Field) → pointwise (field_becomes c) fs gs ≡ true → map bare_field (map (field_after c) fs) ≡ map bare_field gs
fields_told c [] [] h = refl
fields_told c (f ∷ fs) (g ∷ gs) h =
    (let k = and_parts (field_becomes c f g) (pointwise (field_becomes c) fs gs) h in λ i. field_told c f g k.0 i ∷ fields_told c fs gs k.1 i)
fields_told c fs gs h = absurd (false≢true h)

key_name_told : (c : Change) (a b : Option (List ℕ)) → key_becomes c a b ≡ true → option_map (key_after c) a ≡ b
key_name_told c None None h = refl
key_name_told c (Some a) (Some b) h = ap Some ((bytes_decides (key_after c a) b).0 h)
key_name_told c a b h = absurd (false≢true h)

macro_name_told : (c : Change) (a b : Option (List ℕ)) → macro_becomes c a b ≡ true → option_map (macro_after c) a ≡ b
macro_name_told c None None h = refl
macro_name_told c (Some a) (Some b) h = ap Some ((bytes_decides (macro_after c a) b).0 h)
macro_name_told c a b h = absurd (false≢true h)

any_value_told : (c : Change) (a b : Option (List Part)) → any_value_becomes c a b ≡ true → option_map bare_value (option_map (value_after c) a) ≡ option_map bare_value b
any_value_told c None None h = refl
any_value_told c (Some a) (Some b) h = ap Some (value_told c a b h)
any_value_told c a b h = absurd (false≢true h)

content_told : (c : Change) (a b : Content) → content_becomes c a b ≡ true → bare_content (content_after c a) ≡ bare_content b
content_told c (Entry e) (Entry f) h =
    let fields = pointwise (field_becomes c) e.fields f.fields in
    let k = and_parts (same_text e.kind f.kind && key_becomes c e.key f.key) fields h in
    let l = and_parts (same_text e.kind f.kind) (key_becomes c e.key f.key) k.0 in
    λ i. Entry (record { kind = texts_told e.kind f.kind l.0 i; key = key_name_told c e.key f.key l.1 i; fields = fields_told c e.fields f.fields k.1 i })
content_told c (Define d) (Define e) h =
    let k = and_parts (macro_becomes c d.name e.name) (any_value_becomes c d.value e.value) h in
    λ i. Define (record { name = macro_name_told c d.name e.name k.0 i; value = any_value_told c d.value e.value k.1 i })
content_told c (Preamble a) (Preamble b) h = ap Preamble (any_value_told c a b h)
content_told c a b h = absurd (false≢true h)

same_fault_told : (a b : Option ItemFault) → same_fault a b ≡ true → a ≡ b
same_fault_told None None h = refl
same_fault_told (Some a) (Some b) h = ap Some (fault_told a b h)
same_fault_told a b h = absurd (false≢true h)

same_closing_told : (a b : Option Closing) → same_closing a b ≡ true → a ≡ b
same_closing_told None None h = refl
same_closing_told (Some a) (Some b) h = ap Some (closing_told a b h)
same_closing_told a b h = absurd (false≢true h)

item_told : (c : Change) (a b : Item) → item_becomes c a b ≡ true → bare_item (item_after c a) ≡ bare_item b
item_told c a b h =
    let k = and_parts (content_becomes c a.content b.content && same_closing a.close b.close) (same_fault a.fault b.fault) h in
    let l = and_parts (content_becomes c a.content b.content) (same_closing a.close b.close) k.0 in
    λ i. record { line = 0; content = content_told c a.content b.content l.0 i; close = same_closing_told a.close b.close l.1 i; fault = same_fault_told a.fault b.fault k.1 i }

piece_told : (c : Change) (a b : Piece) → piece_becomes c a b ≡ true → bare (piece_after c a) ≡ bare b
piece_told c pieces.Comment pieces.Comment h = refl
piece_told c (pieces.Item a) (pieces.Item b) h = ap pieces.Item (item_told c a b h)
piece_told c a b h = absurd (false≢true h)

pub all_pieces : (c : Change) (ps qs : List PlacedPiece) → pieces_become c ps qs ≡ true →
    map (λ (p : PlacedPiece). bare (piece_after c p.piece)) ps ≡ map (λ (p : PlacedPiece). bare p.piece) qs
all_pieces c [] [] h = refl
all_pieces c (p ∷ ps) (q ∷ qs) h =
    (let k = and_parts (placed_becomes c p q) (pieces_become c ps qs) h in λ i. piece_told c p.piece q.piece k.0 i ∷ all_pieces c ps qs k.1 i)
all_pieces c ps qs h = absurd (false≢true h)

-- ---- nothing changes

part_stays : (p : Part) → part_after changes.Nothing p ≡ p
part_stays (Text t) = refl
part_stays (Macro n l) = refl

value_stays : (ps : List Part) → value_after changes.Nothing ps ≡ ps
value_stays [] = refl
value_stays (p ∷ ps) = λ i. part_stays p i ∷ value_stays ps i

reference_stays : (is : Bool) (ps : List Part) → value_after changes.Nothing (cond is (crossref_after changes.Nothing ps) ps) ≡ ps
reference_stays true ps = value_stays ps
reference_stays false ps = value_stays ps

field_stays : (f : Field) → field_after changes.Nothing f ≡ f
field_stays f = λ i. record { name = f.name; line = f.line; value = reference_stays (is_crossref f.name) f.value i }

fields_stay : (fs : List Field) → map (field_after changes.Nothing) fs ≡ fs
fields_stay [] = refl
fields_stay (f ∷ fs) = λ i. field_stays f i ∷ fields_stay fs i

key_stays : (o : Option (List ℕ)) → option_map (key_after changes.Nothing) o ≡ o
key_stays None = refl
key_stays (Some k) = refl

macro_stays : (o : Option (List ℕ)) → option_map (macro_after changes.Nothing) o ≡ o
macro_stays None = refl
macro_stays (Some n) = refl

any_value_stays : (o : Option (List Part)) → option_map (value_after changes.Nothing) o ≡ o
any_value_stays None = refl
any_value_stays (Some ps) = ap Some (value_stays ps)

content_stays : (a : Content) → content_after changes.Nothing a ≡ a
content_stays (Entry e) = λ i. Entry (record { kind = e.kind; key = key_stays e.key i; fields = fields_stay e.fields i })
content_stays (Define d) = λ i. Define (record { name = macro_stays d.name i; value = any_value_stays d.value i })
content_stays (Preamble v) = ap Preamble (any_value_stays v)

piece_stays : (p : Piece) → piece_after changes.Nothing p ≡ p
piece_stays pieces.Comment = refl
piece_stays (pieces.Item item) = λ i. pieces.Item (record { line = item.line; content = content_stays item.content i; close = item.close; fault = item.fault })

pub pieces_stay : (ps : List PlacedPiece) → map (λ (p : PlacedPiece). bare (piece_after changes.Nothing p.piece)) ps ≡ map (λ (p : PlacedPiece). bare p.piece) ps
pieces_stay [] = refl
pieces_stay (p ∷ ps) = λ i. bare (piece_stays p.piece i) ∷ pieces_stay ps i
