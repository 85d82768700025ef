-- What is pushed and told leaves a world as a state says.
use Rattle.std.proofs.Common.{◌≡◌, ℕ, Bool, true, false, List, [], ◌∷◌, length, ◌⊎◌, inl, inr, refl}
use Rattle.std.specs.Prelude.{if◌then◌else◌, nat_lt, nat_le}
use Rattle.bt_actions.specs.declared.complaint.Complaint.{Complaint}
use Rattle.bt_actions.specs.declared.complaint.Complaint.TheVariants.{StackPassed, TextPassed}
use Rattle.bt_actions.specs.Item.{Item}
use Rattle.bt_actions.specs.World.{World, Act, Goes, Stops, key_in, told_message, say, with_stack}
use Rattle.bt_actions.specs.State.{text_len, pushed}
use Rattle.bt_actions.specs.Given.{Given, Gives, Errs, answered}
use Rattle.bt_sound.specs.Known.{Known, State, holding}
use Rattle.bt_sound.specs.Fits.{Fits, Here, Past, Among, At, ActAt}
use Rattle.bt_sound.specs.Excluded.{is_clean}
use Rattle.bt_sound.proofs.Messages.{IsHarmless, IsOverflow, clean_more, past_append, past_said}

-- a value that a function gives, where what is known of it holds or its number didn't fit
abbrev pub GivenFits : Known → Given → Type 0
GivenFits k (Gives v) = Fits k v
GivenFits k (Errs c v) = (IsHarmless c × Fits k v) ⊎ IsOverflow c

pub given_if : (k : Known) (t : Bool) (g g' : Given) → GivenFits k g → GivenFits k g' → GivenFits k (if t then g else g')
given_if k true g g' h i = h
given_if k false g g' h i = i

module _ (types : List ℕ) where
  pub if_at : (ss : List State) (t : Bool) (a a' : Act) → ActAt types ss a → ActAt types ss a' → ActAt types ss (if t then a else a')
  if_at ss true a a' h i = h
  if_at ss false a a' h i = i

  -- more states

  pub at_more : (ss tt' : List State) → ((w : World) → Among types ss w → Among types tt' w) → (w : World) → At types ss w → At types tt' w
  at_more ss tt' f w (inl p) = inl p
  at_more ss tt' f w (inr h) = inr (f w h)

  pub act_more : (ss tt' : List State) (a : Act) → ((w : World) → Among types ss w → Among types tt' w) → ActAt types ss a → ActAt types tt' a
  act_more ss tt' (Goes w) f h = at_more ss tt' f w h
  act_more ss tt' (Stops w) f h = h

  -- complaints

  pub told_clean : (c : Complaint) (w : World) → IsHarmless c → is_clean w.messages ≡ true → is_clean (say c w).messages ≡ true
  told_clean c w h i = clean_more w.messages (told_message w c) i (h (key_in w.entries w.current))

  pub told_here : (s : State) (c : Complaint) (w : World) → IsHarmless c → Here types s w → Here types s (say c w)
  told_here s c w h i = (told_clean c w h i.0, i.1, i.2)

  pub told_past : (s : State) (c : Complaint) (w : World) → IsOverflow c → Here types s w → Past (say c w)
  told_past s c w o i =
      let over = o (key_in w.entries w.current) in
      (clean_more w.messages (told_message w c) i.0 over.0, past_said w.messages (told_message w c) over.1, i.1.0)

  -- a value is pushed

  pub pushed_at : (s : State) (k : Known) (v : Item) (w : World) → Fits k v → Here types s w → ActAt types (holding (k ∷ s.stack) s ∷ []) (pushed v w)
  pushed_at s k v w f h =
      let long = Stops (say TextPassed w) in
      let short = nat_le (text_len v) 65536 in
      let put = Goes (with_stack (v ∷ w.stack) w) in
      let after = holding (k ∷ s.stack) s ∷ [] in
      if_at after (nat_lt (length w.stack) 1000) (if short then put else long) (Stops (say StackPassed w))
      (if_at after short put long (inr (inl (h.0, h.1, (f, h.2)))) (told_clean TextPassed w (λ key. refl) h.0))
      (told_clean StackPassed w (λ key. refl) h.0)

  stopped_past : (c : Complaint) (w : World) → Past w → is_clean (say c w).messages ≡ true
  stopped_past c w p = past_append w.messages (told_message w c ∷ []) p.0 p.1

  pushed_past : (ss : List State) (v : Item) (w : World) → Past w → ActAt types ss (pushed v w)
  pushed_past ss v w p =
      let long = Stops (say TextPassed w) in
      let short = nat_le (text_len v) 65536 in
      let put = Goes (with_stack (v ∷ w.stack) w) in
      if_at ss (nat_lt (length w.stack) 1000) (if short then put else long) (Stops (say StackPassed w))
      (if_at ss short put long (inl p) (stopped_past TextPassed w p)) (stopped_past StackPassed w p)

  -- what a function gives

  pub answered_at : (s : State) (k : Known) (g : Given) (w : World) → GivenFits k g → Here types s w → ActAt types (holding (k ∷ s.stack) s ∷ []) (answered g w)
  answered_at s k (Gives v) w f h = pushed_at s k v w f h
  answered_at s k (Errs c v) w (inl f) h =
      if_at (holding (k ∷ s.stack) s ∷ []) (nat_lt (length w.stack) 1000) (pushed v (say c w)) (Stops (say StackPassed w))
      (pushed_at s k v (say c w) f.1 (told_here s c w f.0 h)) (told_clean StackPassed w (λ key. refl) h.0)
  answered_at s k (Errs c v) w (inr o) h =
      if_at (holding (k ∷ s.stack) s ∷ []) (nat_lt (length w.stack) 1000) (pushed v (say c w)) (Stops (say StackPassed w))
      (pushed_past (holding (k ∷ s.stack) s ∷ []) v (say c w) (told_past s c w o h)) (told_clean StackPassed w (λ key. refl) h.0)
