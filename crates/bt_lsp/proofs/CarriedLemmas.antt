-- What the desk does with a message, from its steps.
use Rattle.std.proofs.Common.{◌≡◌, ◌∙◌, ◌⊎◌, inl, inr, ap, sym, subst, ℕ, Bool, true, false, List, [], codes, Option, Some, option_map, Result, Ok, Err}
use Rattle.std.specs.Prelude.{IsTrue}
use Rattle.std.specs.List.{AllByRecursion}
use Rattle.serde_json.specs.Data.{Data}
use Rattle.serde_json.specs.View.{view}
use Rattle.bt_rpc.specs.declared.answers.RpcError.{RpcError}
use Rattle.bt_rpc.specs.declared.answers.RpcError.TheVariants.{InternalError}
use Rattle.bt_talk.specs.Handled.{IsNote}
use Rattle.bt_lsp.specs.declared.methods.Request.{Request}
use Rattle.bt_lsp.specs.declared.methods.Notice.TheVariants.{Changed, Other}
use Rattle.bt_lsp.specs.Methods.{notice_of, request_of}
use Rattle.bt_lsp.proofs.PlainLemmas.{carried_notes}
use Rattle.bt_documents.specs.Documents.{AreGiven, any_behind, Follows}
use Rattle.bt_documents.proofs.DocumentLemmas.{given_same}
use Rattle.bt_lsp.specs.declared.methods.Notice.{Notice}
use Rattle.bt_lsp.specs.declared.server.Duty.{Duty}
use Rattle.bt_lsp.specs.declared.server.Duty.TheVariants.{Carry}
use Rattle.bt_lsp.specs.declared.server.Server.{Server}
use Rattle.bt_lsp.specs.declared.server.Phase.TheVariants.{Ready}
use Rattle.bt_lsp.specs.declared.announcing.Announced.{Announced}
use Rattle.bt_places.specs.Parameters.{text_at, offers_bytes, takes_plain}
use Rattle.bt_lsp.specs.Announcing.{announced_by}
use Rattle.bt_places.specs.Shapes.{capabilities}
use Rattle.bt_places.specs.Shown.{Shown}
use Rattle.bt_lsp.specs.Progress.{shows_progress}
use Rattle.bt_lsp.specs.Watching.{watches_files}
use Rattle.bt_answers.specs.Related.{shows_related}
use Rattle.bt_lsp.specs.Desk.{Begins, BeginsBy, IsBegun, TakenOrLost, Tells, Carried, TakenUp, IsFoundOutcome, is_behind, is_greeting, duty_of, owes, ByDuty, Noted, NotedIf, SettledIf, Answered}

-- a notification that the desk takes
pub carried : {P : Type 0} (text : P → List ℕ → Option (List ℕ)) (shown : P → Shown) (d next mid e : Server P) (notice : Notice) (m : Data) (told : List Data) (behind : Bool) →
    TakenOrLost notice m d next → (Follows (text d.paper) d.documents → Follows (text d.paper) next.documents) →
    next ≡ record d { documents = next.documents; lost = next.lost; stale = next.stale } →
    AreGiven next.documents mid.documents → (Follows (text next.paper) next.documents → Follows (text mid.paper) mid.documents) →
    (IsTrue mid.stale → IsTrue next.stale) → (IsTrue mid.stale → IsTrue behind) → (IsTrue behind → IsTrue mid.stale ⊎ IsTrue (any_behind mid.documents)) → mid ≡ record next { paper = mid.paper; documents = mid.documents; stale = mid.stale } →
    Tells shown mid behind notice m told e →
    e ≡ record mid { lost = e.lost; in_progress = e.in_progress; said = e.said; pending = e.pending; checked = e.checked; step_words = e.step_words } → Carried text shown d notice m told e
carried {P} text shown d next mid e notice m told behind taken first took given second due unread lags caught says told_it =
    let stale : e.stale ≡ mid.stale = ap (λ (s : Server P). s.stale) told_it in
    let docs : e.documents ≡ mid.documents = ap (λ (s : Server P). s.documents) told_it in
    let paper : next.paper ≡ d.paper = ap (λ (s : Server P). s.paper) took in
    let kept : Server P → Server P = λ s. record s { paper = e.paper; documents = e.documents; lost = e.lost; stale = e.stale; in_progress = e.in_progress; said = e.said; pending = e.pending; checked = e.checked; step_words = e.step_words } in
    record {
      next = next;
      taken = taken;
      given = subst (AreGiven next.documents) (sym docs) given;
      behind = behind;
      due = λ t. due (sym stale ∙ t);
      unread = λ t. unread (sym stale ∙ t);
      lags = λ t. subst (λ (s : Server P). IsTrue s.stale ⊎ IsTrue (any_behind s.documents)) (sym told_it) (lags t);
      says = subst (λ (s : Server P). Tells shown s behind notice m told e) caught says;
      follows = λ f. subst (λ (s : Server P). Follows (text s.paper) s.documents) (sym told_it) (second (subst (λ p. Follows (text p) next.documents) (sym paper) (first f)));
      is = ap kept told_it ∙ ap kept caught ∙ ap kept took;
    }

-- a paper that has begun with the job and the folder of a message
pub began : {P : Type 0} (begins : Begins P) (m : Data) (p q : P) (job folder : Option (List ℕ)) →
    job ≡ text_at (codes "/params/initializationOptions/job") m → folder ≡ text_at (codes "/params/rootUri") m → begins p job folder q → BeginsBy begins m p q
began {P} begins m p q job folder j f did =
    subst (λ x. begins p x (text_at (codes "/params/rootUri") m) q) j (subst (λ x. begins p job x q) f did)

-- what `initialize` did
pub begun : {P : Type 0} (m : Data) (d e : Server P) (outcome : Result Data RpcError) (bytes plain shows watches relates : Bool) (announced : Announced) →
    outcome ≡ Ok (capabilities bytes) → bytes ≡ offers_bytes m → plain ≡ takes_plain m → shows ≡ shows_progress m → watches ≡ watches_files m → relates ≡ shows_related m → announced ≡ announced_by m →
    option_map view e.start ≡ Some m →
    e ≡ record d { start = e.start; phase = Ready; counts_bytes = bytes; hovers_plain = plain; shows_progress = shows; watches_files = watches; shows_related = relates; announced = announced } →
    IsBegun m d outcome e
begun {P} m d e outcome bytes plain shows watches relates announced says b h p w r a start is =
    let began : Bool → Bool → Bool → Bool → Bool → Announced → Server P = λ b h p w r a.
    record d { start = e.start; phase = Ready; counts_bytes = b; hovers_plain = h; shows_progress = p; watches_files = w; shows_related = r; announced = a } in
    let same : began bytes plain shows watches relates announced ≡ began (offers_bytes m) (takes_plain m) (shows_progress m) (watches_files m) (shows_related m) (announced_by m) =
    λ j. began (b j) (h j) (p j) (w j) (r j) (a j) in
    record { answer = says ∙ ap (λ x. Ok (capabilities x)) b; start = start; is = is ∙ same }

-- a change of which nothing is told yet
pub deferred : {P : Type 0} (text : P → List ℕ → Option (List ℕ)) (shown : P → Shown) (d next e : Server P) (m : Data) (told : List Data) → TakenOrLost Changed m d next →
    (Follows (text d.paper) d.documents → Follows (text d.paper) next.documents) →
    next ≡ record d { documents = next.documents; lost = next.lost; stale = next.stale } → told ≡ [] → e ≡ record next { pending = true } → Carried text shown d Changed m told e
deferred {P} text shown d next e m told taken first took none told_it =
    let stale : e.stale ≡ next.stale = ap (λ (s : Server P). s.stale) told_it in
    let docs : e.documents ≡ next.documents = ap (λ (s : Server P). s.documents) told_it in
    let paper : next.paper ≡ d.paper = ap (λ (s : Server P). s.paper) took in
    let kept : Server P → Server P = λ s. record s { paper = e.paper; documents = e.documents; lost = e.lost; stale = e.stale; in_progress = e.in_progress; said = e.said; pending = e.pending; checked = e.checked; step_words = e.step_words } in
    record {
      next = next;
      taken = taken;
      given = subst (AreGiven next.documents) (sym docs) (given_same next.documents);
      behind = e.stale;
      due = λ t. sym stale ∙ t;
      unread = λ t. t;
      lags = λ t. inl t;
      says = inr (none, ap (λ (s : Server P). s.lost) told_it, ap (λ (s : Server P). s.in_progress) told_it, ap (λ (s : Server P). s.said) told_it, ap (λ (s : Server P). s.pending) told_it);
      follows = λ f. subst (λ (s : Server P). Follows (text s.paper) s.documents) (sym told_it) (subst (λ p. Follows (text p) next.documents) (sym paper) (first f));
      is = ap kept told_it ∙ ap kept took;
    }

-- a request that was answered
pub answered_so : {P : Type 0} (begins : Begins P) (text : P → List ℕ → Option (List ℕ)) (shown : P → Shown) (d mid e : Server P) (method : List ℕ) (request : Request) (m : Data) (outcome : Result Data RpcError)
    (told : List Data) → SettledIf begins text shown (owes d.phase (is_behind d)) d m told mid → request ≡ request_of method →
    IsFoundOutcome shown mid request m outcome e → Answered begins text shown d method m outcome told e
answered_so {P} begins text shown d mid e method request m outcome told first is how =
    record { settled = mid; told_first = first; answer = inl (subst (λ r. IsFoundOutcome shown mid r m outcome e) is how) }

-- a request for whose answer there was no memory
pub answered_late : {P : Type 0} (begins : Begins P) (text : P → List ℕ → Option (List ℕ)) (shown : P → Shown) (d mid e : Server P) (method : List ℕ) (m : Data) (outcome : Result Data RpcError)
    (told : List Data) → SettledIf begins text shown (owes d.phase (is_behind d)) d m told mid → outcome ≡ Err InternalError → e ≡ mid → Answered begins text shown d method m outcome told e
answered_late begins text shown d mid e method m outcome told first is same = record { settled = mid; told_first = first; answer = inr (is, same) }

-- what is said to a notification that the desk takes
pub taken_notes : {P : Type 0} (begins : Begins P) (text : P → List ℕ → Option (List ℕ)) (shown : P → Shown) (d : Server P) (notice : Notice) (m : Data) (told : List Data) (e : Server P) →
    TakenUp begins text shown d notice m told e → AllByRecursion IsNote told
taken_notes begins text shown d notice m told e (inl h) = carried_notes text shown h.0 notice m told e h.2
taken_notes begins text shown d notice m told e (inr h) = subst (AllByRecursion IsNote) (sym h.1) tt

pub settled_notes : {P : Type 0} (begins : Begins P) (text : P → List ℕ → Option (List ℕ)) (shown : P → Shown) (b : Bool) (d : Server P) (m : Data) (told : List Data) (e : Server P) →
    SettledIf begins text shown b d m told e → AllByRecursion IsNote told
settled_notes begins text shown false d m told e h = subst (AllByRecursion IsNote) (sym h.0) tt
settled_notes begins text shown true d m told e h = taken_notes begins text shown d Other m told e h

-- a notification that the desk takes
pub noted_carried : {P : Type 0} (begins : Begins P) (text : P → List ℕ → Option (List ℕ)) (shown : P → Shown) (d : Server P) (method : List ℕ) (m : Data) (told : List Data) (e : Server P)
    (greets behind : Bool) (notice : Notice) (duty : Duty) → greets ≡ is_greeting method d → greets ≡ false → notice ≡ notice_of method → behind ≡ is_behind d → duty ≡ duty_of d.phase behind notice → duty ≡ Carry →
    TakenUp begins text shown d notice m told e → Noted begins text shown d method m told e
noted_carried begins text shown d method m told e greets behind notice duty greeting none noticed lags is carries h =
    let same : duty_of d.phase behind notice ≡ duty_of d.phase (is_behind d) (notice_of method) = λ j. duty_of d.phase (lags j) (noticed j) in
    subst (λ (b : Bool). NotedIf begins text shown b d method m told e) (sym none ∙ greeting)
    (subst (λ (q : Duty). ByDuty begins text shown q d (notice_of method) m told e) (sym carries ∙ is ∙ same)
    (subst (λ (n : Notice). TakenUp begins text shown d n m told e) noticed h))
