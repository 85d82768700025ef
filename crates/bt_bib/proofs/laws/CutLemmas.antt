-- A text that is cut at a place and continued with other bytes: what is read of it up to there.
use Rattle.std.proofs.Common.{◌≡◌, ℕ, suc, ◌+◌, ◌-◌, ◌<◌, ◌≤◌, Bool, true, false, cond, List, [], ◌∷◌, ◌++◌, length, take, refl, sym, ap, subst, ◌∙◌, arith, inl, inr}
use Rattle.std.proofs.lemmas.List.{take-append-le, length-take-le, take-take}
use Rattle.std.proofs.lemmas.Bool.{cases_lt}
use Rattle.bt_bib.specs.declared.spot.Spot.{Spot}
use Rattle.bt_bib.specs.Spot.{Here, at, spot_after_byte, after_byte}
use Rattle.bt_bib.specs.Scan.{first, run, after_run}
use Rattle.bt_bib.proofs.RunLemmas.{past_run, past_is_run, run_is_between, run_more, run_stop}
use Rattle.bt_bib.proofs.EnclosedLemmas.{between}
use Rattle.bt_bib.proofs.ReachLemmas.{Reaches, reaches_place, reaches_sum, past_reaches}

-- the bytes from h up to e, and then other bytes
abbrev pub cut : Here → Here → List ℕ → Here
cut h e more = at h.spot (between h e ++ more)

pub cut_here : (h e : Here) (more : List ℕ) → e.spot.place ≤ h.spot.place → cut h e more ≡ at h.spot more
cut_here h e more le =
    let n : e.spot.place - h.spot.place ≡ 0 = omega arith in
    ap (λ k. at h.spot (take k h.rest ++ more)) n

pub cut_cons : (s : Spot) (b : ℕ) (bs : List ℕ) (e : Here) (more : List ℕ) → s.place < e.spot.place → cut (at s (b ∷ bs)) e more ≡ at s (b ∷ (cut (at (spot_after_byte b s) bs) e more).rest)
cut_cons s b bs e more lt =
    let n : e.spot.place - s.place ≡ suc (e.spot.place - (s.place + 1)) = omega arith in
    ap (λ k. at s (take k (b ∷ bs) ++ more)) n

pub no_further : (s : Spot) (e : Here) → Reaches (at s []) e → e.spot.place ≤ s.place
no_further s e r = omega (arith, reaches_sum (at s []) e r)

first_cut_run : (s : Spot) (r : List ℕ) (e : Here) (more : List ℕ) → s.place < e.spot.place → Reaches (at s r) e → first (cut (at s r) e more).rest ≡ first r
first_cut_run s [] e more lt way = absurd (omega (arith, no_further s e way))
first_cut_run s (b ∷ bs) e more lt way = ap (λ (x : Here). first x.rest) (cut_cons s b bs e more lt)

pub first_cut : (h e : Here) (more : List ℕ) → h.spot.place < e.spot.place → Reaches h e → first (cut h e more).rest ≡ first h.rest
first_cut h e more lt way = first_cut_run h.spot h.rest e more lt way

pub behind_cut : (s : Spot) (b : ℕ) (bs : List ℕ) (e : Here) (more : List ℕ) → s.place < e.spot.place → after_byte (cut (at s (b ∷ bs)) e more) ≡ cut (at (spot_after_byte b s) bs) e more
behind_cut s b bs e more lt = ap after_byte (cut_cons s b bs e more lt)

-- some bytes begin with one that satisfies P
pub record Begins (P : ℕ → Type 0) (more : List ℕ) : Type 0 where
  pub byte : ℕ
  pub rest : List ℕ
  pub is : more ≡ byte ∷ rest
  pub fits : P byte

pub begins_as : {P Q : ℕ → Type 0} {more : List ℕ} → ((b : ℕ) → P b → Q b) → Begins P more → Begins Q more
begins_as k b = record { byte = b.byte; rest = b.rest; is = b.is; fits = k b.byte b.fits }

-- if the text is cut at k or before it, the bytes after the cut begin with P
abbrev pub Next : (ℕ → Type 0) → Here → Here → List ℕ → Type 0
Next P k e more = e.spot.place ≤ k.spot.place → Begins P more

abbrev pub Fails : (ℕ → Bool) → ℕ → Type 0
Fails test b = test b ≡ false

pub stops : (test : ℕ → Bool) (s : Spot) (more : List ℕ) → Begins (Fails test) more → past_run test s more ≡ at s more
stops test s more b = subst (λ r. past_run test s r ≡ at s r) (sym b.is) (run_stop test s b.byte b.rest b.fits)

run_ahead : (test : ℕ → Bool) (s : Spot) (r : List ℕ) → Reaches (at s r) (past_run test s r)
run_ahead test s r = subst (λ e. Reaches (at s r) e) (past_is_run test s r) (past_reaches test (at s r))

past_cut_by : (v : Bool) (test : ℕ → Bool) (s : Spot) (b : ℕ) (bs : List ℕ) (e : Here) (more : List ℕ) → test b ≡ v → (let k = cond v (past_run test (spot_after_byte b s) bs) (at s (b ∷ bs)) in
    Reaches k e → Next (Fails test) k e more → (Reaches (past_run test (spot_after_byte b s) bs) e → Next (Fails test) (past_run test (spot_after_byte b s) bs) e more → past_run test (spot_after_byte b s) (cut (at (spot_after_byte b s) bs) e more).rest ≡ cut (past_run test (spot_after_byte b s) bs) e more)
    → past_run test s (cut (at s (b ∷ bs)) e more).rest ≡ cut k e more)
past_cut_by true test s b bs e more is way next step =
    let lt : s.place < e.spot.place = omega (arith, reaches_place (at (spot_after_byte b s) bs) (past_run test (spot_after_byte b s) bs) (run_ahead test (spot_after_byte b s) bs), reaches_place (past_run test (spot_after_byte b s) bs) e way) in
    ap (λ (k : Here). past_run test s k.rest) (cut_cons s b bs e more lt) ∙ run_more test s b (cut (at (spot_after_byte b s) bs) e more).rest is ∙ step way next
past_cut_by false test s b bs e more is way next step = elim (cases_lt s.place e.spot.place) [
  | inl lt ↦
      let one = cut_cons s b bs e more lt in
      ap (λ (k : Here). past_run test s k.rest) one ∙ run_stop test s b (cut (at (spot_after_byte b s) bs) e more).rest is ∙ sym one
  | inr le ↦
      let one = cut_here (at s (b ∷ bs)) e more le in
      ap (λ (k : Here). past_run test s k.rest) one ∙ stops test s more (next le) ∙ sym one
]

past_cut_run : (test : ℕ → Bool) (s : Spot) (r : List ℕ) (e : Here) (more : List ℕ) → Reaches (past_run test s r) e → Next (Fails test) (past_run test s r) e more → past_run test s (cut (at s r) e more).rest ≡ cut (past_run test s r) e more
unfolding past_run
past_cut_run test s [] e more way next =
    let le = no_further s e way in
    let one = cut_here (at s []) e more le in
    ap (λ (k : Here). past_run test s k.rest) one ∙ stops test s more (next le) ∙ sym one
past_cut_run test s (b ∷ bs) e more way next = past_cut_by (test b) test s b bs e more refl way next (past_cut_run test (spot_after_byte b s) bs e more)

-- a run of bytes ends where it did
pub past_cut : (test : ℕ → Bool) (h e : Here) (more : List ℕ) → Reaches (after_run test h) e → Next (Fails test) (after_run test h) e more → after_run test (cut h e more) ≡ cut (after_run test h) e more
past_cut test h e more way next =
    let walked = past_is_run test h.spot h.rest in
    past_is_run test h.spot (cut h e more).rest ∙ past_cut_run test h.spot h.rest e more (subst (λ k. Reaches k e) walked way) (subst (λ k. Next (Fails test) k e more) walked next) ∙ ap (λ k. cut k e more) (sym walked)

-- a run that goes on after the cut
past_longer_by : (v : Bool) (test : ℕ → Bool) (s : Spot) (b : ℕ) (bs more : List ℕ) → test b ≡ v → (let g = past_run test (spot_after_byte b s) bs in past_run test (spot_after_byte b s) (cut (at (spot_after_byte b s) bs) g more).rest ≡ past_run test g.spot more → (let k = cond v g (at s (b ∷ bs)) in past_run test s (cut (at s (b ∷ bs)) k more).rest ≡ past_run test k.spot more))
past_longer_by true test s b bs more is step =
    let g = past_run test (spot_after_byte b s) bs in
    let lt : s.place < g.spot.place = omega (arith, reaches_place (at (spot_after_byte b s) bs) g (run_ahead test (spot_after_byte b s) bs)) in
    ap (λ (k : Here). past_run test s k.rest) (cut_cons s b bs g more lt) ∙ run_more test s b (cut (at (spot_after_byte b s) bs) g more).rest is ∙ step
past_longer_by false test s b bs more is step = (let h = at s (b ∷ bs) in ap (λ (k : Here). past_run test s k.rest) (cut_here h h more (omega arith)))

past_longer_run : (test : ℕ → Bool) (s : Spot) (r more : List ℕ) → (let k = past_run test s r in past_run test s (cut (at s r) k more).rest ≡ past_run test k.spot more)
unfolding past_run
past_longer_run test s [] more = ap (λ (k : Here). past_run test s k.rest) (cut_here (at s []) (at s []) more (omega arith))
past_longer_run test s (b ∷ bs) more = past_longer_by (test b) test s b bs more refl (past_longer_run test (spot_after_byte b s) bs more)

pub past_longer : (test : ℕ → Bool) (h : Here) (more : List ℕ) → after_run test (cut h (after_run test h) more) ≡ past_run test (after_run test h).spot more
past_longer test h more =
    let walked = past_is_run test h.spot h.rest in
    past_is_run test h.spot (cut h (after_run test h) more).rest ∙ ap (λ k. past_run test h.spot (cut h k more).rest) walked ∙ past_longer_run test h.spot h.rest more ∙ ap (λ (k : Here). past_run test k.spot more) (sym walked)

-- the bytes up to a place before the cut
pub between_cut : (h k e : Here) (more : List ℕ) → Reaches h k → Reaches k e → between (cut h e more) (cut k e more) ≡ between h k
between_cut h k e more first last =
    let le : k.spot.place - h.spot.place ≤ e.spot.place - h.spot.place = omega (arith, reaches_place h k first, reaches_place k e last) in
    let inside : e.spot.place - h.spot.place ≤ length h.rest = omega (arith, reaches_sum h k first, reaches_sum k e last) in
    take-append-le (k.spot.place - h.spot.place) (between h e) more (omega (arith, length-take-le (e.spot.place - h.spot.place) h.rest inside)) ∙ take-take (k.spot.place - h.spot.place) (e.spot.place - h.spot.place) h.rest le

pub run_cut : (test : ℕ → Bool) (h e : Here) (more : List ℕ) → Reaches (after_run test h) e → Next (Fails test) (after_run test h) e more → run test (cut h e more) ≡ run test h
run_cut test h e more way next =
    run_is_between test (cut h e more) ∙ ap (λ k. between (cut h e more) k) (past_cut test h e more way next) ∙ between_cut h (after_run test h) e more (past_reaches test h) way ∙ sym (run_is_between test h)
