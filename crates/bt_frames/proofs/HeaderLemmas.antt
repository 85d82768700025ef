-- One more line of a header.
use Rattle.std.proofs.Common.{◌≡◌, ◌<◌, ℕ, List, [], ◌∷◌, ◌++◌, length, length-append, take, refl, ap, sym, subst, ◌∙◌, append_assoc, arith, Bool, true, false, ◌⊎◌, inl, inr, Option, None, Some}
use Rattle.std.proofs.lemmas.Grind.{common_steps}
use Rattle.std.specs.List.{fold, AllByRecursion}
use Rattle.bt_streams.specs.Reads.{HasNoFeed}
use Rattle.std.specs.Io.KnownBytes.{Consumes, IsAtEnd}
use Rattle.bt_streams.proofs.ReadLemmas.{consumes_more}
use Rattle.bt_frames.specs.declared.framing.Header.{Header}
use Rattle.bt_frames.specs.declared.framing.Header.TheVariants.{Length, End, Cut}
use Rattle.bt_frames.specs.declared.framing.Frame.{Frame}
use Rattle.bt_frames.specs.declared.framing.Frame.TheVariants.{Body, NoLength, TooLarge, NoMemory, End as FrameEnd, Cut as FrameCut}
use Rattle.bt_frames.specs.Headers.{without_cr, said_by, lines_text, IsLine, AreLines, IsHeader, IsCutHeader}
use Rattle.bt_frames.specs.Frames.{ReadsHeader, ReadsFrame}
use Rattle.bt_frames.specs.inner.Bodies.{IsEnded, ReadsBody}

-- the text of one more line
pub lines_more : (ls : List (List ℕ)) (l : List ℕ) → lines_text (ls ++ l ∷ []) ≡ lines_text ls ++ (l ++ 10 ∷ [])
lines_more [] l = grind (arith, common_steps)
lines_more (x ∷ ls) l = ap (λ t. (x ++ 10 ∷ []) ++ t) (lines_more ls l) ∙ sym (append_assoc (x ++ 10 ∷ []) (lines_text ls) (l ++ 10 ∷ []))

-- each of them is one
pub each_more : (ls : List (List ℕ)) (l : List ℕ) → AllByRecursion IsLine ls → IsLine l → AllByRecursion IsLine (ls ++ l ∷ [])
each_more [] l p q = (q, tt)
each_more (x ∷ ls) l p q = (p.0, each_more ls l p.1 q)

-- what they say
pub says_more : (ls : List (List ℕ)) (l : List ℕ) (a : Option ℕ) → fold said_by a (ls ++ l ∷ []) ≡ said_by (fold said_by a ls) l
says_more [] l a = refl
says_more (x ∷ ls) l a = says_more ls l (said_by a x)

-- one more line
pub are_more : (bytes line : List ℕ) (known : Option ℕ) (first : Bool) → AreLines bytes known first → HasNoFeed line →
    0 < length (without_cr line) → AreLines (bytes ++ (line ++ 10 ∷ [])) (said_by known line) false
are_more bytes line known first a p q = record {
  lines = a.lines ++ line ∷ [];
  each = each_more a.lines line a.each (p, q);
  text = ap (λ t. t ++ (line ++ 10 ∷ [])) a.text ∙ sym (lines_more a.lines line);
  says = ap (λ k. said_by k line) a.says ∙ sym (says_more a.lines line None);
  none = λ e. grind arith;
}

-- the same, whether they are the first ones or not
pub are_some : (bytes : List ℕ) (known : Option ℕ) (first : Bool) → AreLines bytes known first → AreLines bytes known false
are_some bytes known first a = record { lines = a.lines; each = a.each; text = a.text; says = a.says; none = λ e. grind arith }

-- a line that is too long says nothing, and isn't empty
pub long_says : (known : Option ℕ) (line : List ℕ) → 255 < length line → said_by known line ≡ known
long_says known line p = grind (arith, common_steps)

pub long_is_line : (line : List ℕ) → 255 < length line → 0 < length (without_cr line)
long_is_line line p = grind (arith, common_steps)

-- one more line that is too long
pub long_more : (bytes line : List ℕ) (known : Option ℕ) (first : Bool) → AreLines bytes known first → HasNoFeed line →
    255 < length line → AreLines (bytes ++ (line ++ 10 ∷ [])) known false
long_more bytes line known first a p q =
    subst (λ k. AreLines (bytes ++ (line ++ 10 ∷ [])) k false) (long_says known line q) (are_more bytes line known first a p (long_is_line line q))

-- a text is no shorter than its end
pub longer : (front last : List ℕ) → 0 < length last → 0 < length (front ++ last)
longer front last p = omega (arith, length-append front last, p)

pub line_counts : (front line : List ℕ) → 0 < length (front ++ (line ++ 10 ∷ []))
line_counts front line = omega (arith, length-append front (line ++ 10 ∷ []), length-append line (10 ∷ []))

-- a header whose input ended
pub cut_header : (front last : List ℕ) (known : Option ℕ) (first : Bool) → AreLines front known first → HasNoFeed last →
    0 < length (front ++ last) → IsCutHeader (front ++ last)
cut_header front last known first a p q = record {
  front = front;
  last = last;
  says = known;
  lines = are_some front known first a;
  part = p;
  text = refl;
  some = q;
}

len_taken : (n : ℕ) (xs : List ℕ) → n < length xs → length (take n xs) ≡ n
len_taken n xs p = grind (arith, common_steps)

no_bytes : (bytes : List ℕ) (known : Option ℕ) (first : Bool) → AreLines bytes known first → first ≡ true → bytes ≡ []
no_bytes bytes known first a e = a.text ∙ ap lines_text (a.none e)

is_empty : (part : List ℕ) → length part ≡ 0 → part ≡ []
is_empty [] e = refl
is_empty (b ∷ part) e = absurd (cc)

-- the end of the input after lines and a part of a line
pub header_ended : (old new : Option (List ℕ)) (bytes : List ℕ) (n : ℕ) (buffer : List ℕ) (known : Option ℕ) (first : Bool) (h : Header) →
    AreLines bytes known first → n < length buffer → HasNoFeed (take n buffer) → (first ≡ false → 0 < length bytes) →
    Consumes old new (bytes ++ take n buffer) → IsAtEnd new → IsEnded first n h → ReadsHeader old new h
header_ended old new bytes n buffer known first (Length says) a w f s k e h = absurd h
header_ended old new bytes n buffer known first End a w f s k e h =
    let none = no_bytes bytes known first a h.0 in
    let part = is_empty (take n buffer) (len_taken n buffer w ∙ h.1) in
    (subst (Consumes old new) (ap (λ t. t ++ take n buffer) none ∙ part) k, e)
header_ended old new bytes n buffer known first Cut a w f s k e (inl later) =
    (bytes ++ take n buffer, cut_header bytes (take n buffer) known first a f (omega (arith, length-append bytes (take n buffer), s later)), k, e)
header_ended old new bytes n buffer known first Cut a w f s k e (inr some) =
    (bytes ++ take n buffer, cut_header bytes (take n buffer) known first a f (omega (arith, length-append bytes (take n buffer), len_taken n buffer w, some)), k, e)

-- a header and the body behind it
pub frame_read : (old mid new : Option (List ℕ)) (header : List ℕ) (count : ℕ) (f : Frame) → IsHeader header (Some count) → Consumes old mid header →
    ReadsBody mid new count f → ReadsFrame old new f
frame_read old mid new header count (Body body) h c (n, fits, k) = (header, rw n h, rw n fits, consumes_more old mid new header body.items c k)
frame_read old mid new header count NoLength h c k = absurd k
frame_read old mid new header count TooLarge h c (body, n, large, k) = (header, body, rw n h, rw n large, consumes_more old mid new header body c k)
frame_read old mid new header count NoMemory h c (body, n, fits, k) = (header, body, rw n h, rw n fits, consumes_more old mid new header body c k)
frame_read old mid new header count FrameEnd h c k = absurd k
frame_read old mid new header count FrameCut h c (body, less, k, e) =
    (header ++ body, inr (header, body, count, h, less, refl), consumes_more old mid new header body c k, e)
