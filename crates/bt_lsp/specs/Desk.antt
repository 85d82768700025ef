-- What the desk does with messages.
use Rattle.std.specs.Prelude.{◌≡◌, ◌⊎◌, ℕ, Bool, true, false, ◌&&◌, ◌||◌, if◌then◌else◌, bytes_eq, List, [], ◌++◌, codes, Option, Some, None, is_some, option_map, Result, Ok, Err, IsTrue}
use Rattle.serde_json.specs.Data.{Data, null}
use Rattle.serde_json.specs.View.{view}
use Rattle.serde_json.specs.declared.value.Value.{Value}
use Rattle.bt_rpc.specs.declared.answers.RpcError.{RpcError}
use Rattle.bt_rpc.specs.declared.answers.RpcError.TheVariants.{InvalidRequest, InternalError, ServerNotInitialized}
use Rattle.bt_documents.specs.Documents.{AreGiven, any_behind, Follows}
use Rattle.bt_lsp.specs.declared.methods.Request.{Request}
use Rattle.bt_lsp.specs.declared.methods.Request.TheVariants.{Initialize, Shutdown, AtCursor, OfDocument, OfPaper, OfRun, Unknown}
use Rattle.bt_lsp.specs.declared.methods.Notice.{Notice}
use Rattle.bt_lsp.specs.declared.methods.Notice.TheVariants.{Opened, Changed, Closed, Saved, Exit, Other}
use Rattle.bt_lsp.specs.declared.found.Found.{Found}
use Rattle.bt_lsp.specs.declared.server.Phase.{Phase}
use Rattle.bt_lsp.specs.declared.server.Phase.TheVariants.{New, Ready, ShutDown}
use Rattle.bt_lsp.specs.declared.server.Duty.{Duty}
use Rattle.bt_lsp.specs.declared.server.Duty.TheVariants.{End, Pass, Carry}
use Rattle.bt_lsp.specs.declared.server.Server.{Server}
use Rattle.bt_lsp.specs.Methods.{request_of, notice_of, rereads}
use Rattle.bt_places.specs.Parameters.{text_at, offers_bytes, takes_plain}
use Rattle.bt_lsp.specs.Announcing.{announced_by}
use Rattle.bt_lsp.specs.Progress.{shows_progress, with_end}
use Rattle.bt_answers.specs.Related.{shows_related}
use Rattle.bt_lsp.specs.Watching.{watches_files, greeting}
use Rattle.bt_places.specs.Shown.{Shown}
use Rattle.bt_lsp.specs.Answering.{answer_to}
use Rattle.bt_places.specs.Shapes.{capabilities}
use Rattle.bt_lsp.specs.News.{news, warnings, cleared}
use Rattle.bt_lsp.specs.Complaints.{complaints, with_complaints}
use Rattle.bt_lsp.specs.Taken.{Taken}

-- what the desk does with a notification: `exit` ends it; before `initialize` and after `shutdown` the others pass, and so
-- do those that it doesn't know, unless the paper has yet to begin or there is news to tell
abbrev pub duty_of : Phase → Bool → Notice → Duty
duty_of phase pending Exit = End
duty_of Ready pending Other = if pending then Carry else Pass
duty_of New pending Other = Pass
duty_of ShutDown pending Other = Pass
duty_of Ready pending Opened = Carry
duty_of Ready pending Changed = Carry
duty_of Ready pending Closed = Carry
duty_of Ready pending Saved = Carry
duty_of New pending Opened = Pass
duty_of New pending Changed = Pass
duty_of New pending Closed = Pass
duty_of New pending Saved = Pass
duty_of ShutDown pending Opened = Pass
duty_of ShutDown pending Changed = Pass
duty_of ShutDown pending Closed = Pass
duty_of ShutDown pending Saved = Pass

-- what a paper does that begins: the paper before, the job and the folder that the editor names, the paper after
abbrev pub Begins : Type 0 → Type 1
Begins P = P → Option (List ℕ) → Option (List ℕ) → P → Type 0

-- a paper begins with the job and the folder of the message `initialize`
abbrev pub BeginsBy : {P : Type 0} → Begins P → Data → P → P → Type 0
BeginsBy begins m p q = begins p (text_at (codes "/params/initializationOptions/job") m) (text_at (codes "/params/rootUri") m) q

-- The desk is ready: its positions count in the editor's units, its hovers are in the editor's format, and it has what the
-- editor shows, watches and wants announced. It keeps the message, with which the paper is to begin.
pub record IsBegun {P : Type 0} (m : Data) (d : Server P) (outcome : Result Data RpcError) (e : Server P) : Type 0 where
  pub answer : outcome ≡ Ok (capabilities (offers_bytes m))
  pub start : option_map view e.start ≡ Some m
  pub is : e ≡ record d {
    start = e.start;
    phase = Ready;
    counts_bytes = offers_bytes m;
    hovers_plain = takes_plain m;
    shows_progress = shows_progress m;
    watches_files = watches_files m;
    shows_related = shows_related m;
    announced = announced_by m;
  }

-- The outcome of a request and the desk after it. `query` is the outcome of a request that changes nothing.
abbrev pub IsOutcome : {P : Type 0} → Data → (Request → Result Data RpcError) → Phase → Request → Server P →
    Result Data RpcError → Server P → Type 0
IsOutcome m query New Initialize d outcome e = IsBegun m d outcome e
IsOutcome m query New Shutdown d outcome e = (outcome ≡ Err ServerNotInitialized) × (e ≡ d)
IsOutcome m query New (AtCursor q) d outcome e = (outcome ≡ Err ServerNotInitialized) × (e ≡ d)
IsOutcome m query New (OfDocument q) d outcome e = (outcome ≡ Err ServerNotInitialized) × (e ≡ d)
IsOutcome m query New (OfPaper q) d outcome e = (outcome ≡ Err ServerNotInitialized) × (e ≡ d)
IsOutcome m query New (OfRun q) d outcome e = (outcome ≡ Err ServerNotInitialized) × (e ≡ d)
IsOutcome m query New Unknown d outcome e = (outcome ≡ Err ServerNotInitialized) × (e ≡ d)
IsOutcome m query ShutDown request d outcome e = (outcome ≡ Err InvalidRequest) × (e ≡ d)
IsOutcome m query Ready Shutdown d outcome e = (outcome ≡ Ok null) × (e ≡ record d { phase = ShutDown })
IsOutcome m query Ready Initialize d outcome e = (outcome ≡ query Initialize) × (e ≡ d)
IsOutcome m query Ready (AtCursor q) d outcome e = (outcome ≡ query (AtCursor q)) × (e ≡ d)
IsOutcome m query Ready (OfDocument q) d outcome e = (outcome ≡ query (OfDocument q)) × (e ≡ d)
IsOutcome m query Ready (OfPaper q) d outcome e = (outcome ≡ query (OfPaper q)) × (e ≡ d)
IsOutcome m query Ready (OfRun q) d outcome e = (outcome ≡ query (OfRun q)) × (e ≡ d)
IsOutcome m query Ready Unknown d outcome e = (outcome ≡ query Unknown) × (e ≡ d)

-- The news of a desk that was `d` and complains so: what comes first, the complaint unless it was said before, the diagnostics
-- of each open document, what is announced, and that the first run has ended, if it was said to begin.
abbrev pub news_with : {P : Type 0} → (P → Shown) → Server P → List ℕ → List Data → Server P → List Data
news_with shown d words first e = with_end d.in_progress (news shown e (with_complaints d.said words first))

-- the news of a desk: warnings first, and it complains of errors about files for which no document has a place
abbrev pub news_of : {P : Type 0} → (P → Shown) → Server P → Bool → Notice → Data → Server P → List Data
news_of shown d behind notice m e =
    news_with shown d (complaints (shown e.paper) e.documents) (warnings d.lost behind ++ cleared notice m) e

-- the desk before, with what the desk after says of what was told and found
abbrev pub with_told : {P : Type 0} → Server P → Server P → Server P
with_told d e = record d {
  lost = e.lost;
  in_progress = e.in_progress;
  said = e.said;
  pending = e.pending;
  checked = e.checked;
  step_words = e.step_words;
}

-- What the editor is told: warnings if a message was lost or memory ran out for a text, the complaints if they differ from
-- those before, and the diagnostics of each open document as the run has them now, with what was found in checked styles, and
-- what is announced. If memory runs out, it is told nothing. The desk knows whether it owes news, and of what it complained.
abbrev pub Tells : {P : Type 0} → (P → Shown) → Server P → Bool → Notice → Data → List Data → Server P → Type 0
Tells shown d behind notice m told e =
    ((told ≡ news_of shown d behind notice m e) × (e.lost ≡ false) × (e.in_progress ≡ false) ×
    (e.said ≡ complaints (shown e.paper) e.documents) × (e.pending ≡ behind)) ⊎
    ((told ≡ []) × (e.lost ≡ d.lost) × (e.in_progress ≡ d.in_progress) × (e.said ≡ d.said) × (e.pending ≡ true))

-- The documents change as a notification says, and the desk knows if files have to be read again; or they stay, and it knows
-- that the notification is lost.
abbrev pub TakenOrLost : {P : Type 0} → Notice → Data → Server P → Server P → Type 0
TakenOrLost notice m d e =
    (Taken d.counts_bytes notice m d.documents e.documents × (e.lost ≡ d.lost) × (e.stale ≡ rereads notice || d.stale)) ⊎
    ((e.documents ≡ d.documents) × (e.lost ≡ true) × (e.stale ≡ d.stale))

-- A notification that the desk takes: it is taken or lost, the paper gets the texts that it doesn't have, and the news is
-- told. Only files that were to be read again may be left unread. The paper is behind if some are, and only then or if it
-- doesn't have the text of a document. If it had the texts of the documents before, it has them after.
pub record Carried {P : Type 0} (text : P → List ℕ → Option (List ℕ)) (shown : P → Shown) (d : Server P) (notice : Notice)
    (m : Data) (told : List Data) (e : Server P) : Type 0 where
  pub next : Server P
  pub taken : TakenOrLost notice m d next
  pub given : AreGiven next.documents e.documents
  pub behind : Bool
  pub due : IsTrue e.stale → IsTrue next.stale
  pub unread : IsTrue e.stale → IsTrue behind
  pub lags : IsTrue behind → IsTrue e.stale ⊎ IsTrue (any_behind e.documents)
  pub says : Tells shown next behind notice m told e
  pub follows : Follows (text d.paper) d.documents → Follows (text e.paper) e.documents
  pub is : e ≡ record d {
    paper = e.paper;
    documents = e.documents;
    lost = e.lost;
    stale = e.stale;
    in_progress = e.in_progress;
    said = e.said;
    pending = e.pending;
    checked = e.checked;
    step_words = e.step_words;
  }

-- the paper has begun as this message says, if there is one
abbrev pub StartsBy : {P : Type 0} → Begins P → Option Value → Server P → Server P → Type 0
StartsBy begins None d e = e ≡ d
StartsBy begins (Some v) d e =
    BeginsBy begins (view v) d.paper e.paper × (e ≡ record d { paper = e.paper; documents = []; start = None })

-- the paper has begun, if it hadn't
abbrev pub IsStarted : {P : Type 0} → Begins P → Server P → Server P → Type 0
IsStarted begins d e = StartsBy begins d.start d e

-- a lost message: the desk will warn of it
abbrev pub IsLost : {P : Type 0} → Server P → Server P → Type 0
IsLost d e = e ≡ record d { lost = true; pending = true }

-- A notification that the desk takes, once its paper has begun. It is lost if there is no memory for that.
abbrev pub TakenUp : {P : Type 0} → Begins P → (P → List ℕ → Option (List ℕ)) → (P → Shown) → Server P → Notice → Data →
    List Data → Server P → Type 0
TakenUp {P} begins text shown d notice m told e =
    ((started : Server P) × IsStarted begins d started × Carried text shown started notice m told e) ⊎
    (IsTrue (is_some d.start) × (told ≡ []) × IsLost d e)

-- whether the paper has yet to begin, or there is news to tell
abbrev pub is_behind : {P : Type 0} → Server P → Bool
is_behind d = d.pending || is_some d.start

-- whether there is something to say to `initialized`
abbrev pub greets : Bool → Bool → Bool
greets shows watches = shows || watches

-- whether this is `initialized` from an editor that shows progress or watches files, before the paper has begun
abbrev pub is_greeting : {P : Type 0} → List ℕ → Server P → Bool
is_greeting method d =
    bytes_eq method (codes "initialized") && greets d.shows_progress d.watches_files && is_some d.start

-- the first run is said to begin, and the editor is asked once to watch files, or there is no memory to say it
abbrev pub IsGreeted : {P : Type 0} → Server P → List Data → Server P → Type 0
IsGreeted d told e =
    ((told ≡ greeting d.shows_progress d.watches_files) × (e ≡ record d { in_progress = d.shows_progress; watches_files = false })) ⊎
    ((told ≡ []) × (e ≡ d))

-- whether the desk owes news
abbrev pub owes : Phase → Bool → Bool
owes New pending = false
owes Ready pending = pending
owes ShutDown pending = false

-- Before a request is answered the paper begins and the desk tells the news that it owes, as if a notification came that says
-- nothing.
abbrev pub SettledIf : {P : Type 0} → Begins P → (P → List ℕ → Option (List ℕ)) → (P → Shown) → Bool → Server P → Data →
    List Data → Server P → Type 0
SettledIf begins text shown false d m told e = (told ≡ []) × (e ≡ d)
SettledIf begins text shown true d m told e = TakenUp begins text shown d Other m told e

-- the outcome of a request, by what is found out for it
abbrev pub IsOutcomeBy : {P : Type 0} → (P → Shown) → Found → Server P → Request → Data → Result Data RpcError →
    Server P → Type 0
IsOutcomeBy shown found d request m outcome e = IsOutcome m (answer_to shown found d m) d.phase request d outcome e

-- the outcome of a request, by what may be found out for it
abbrev pub IsFoundOutcome : {P : Type 0} → (P → Shown) → Server P → Request → Data → Result Data RpcError → Server P →
    Type 0
IsFoundOutcome shown d request m outcome e =
    (found : Found) × IsOutcomeBy shown found d request m outcome e

-- A request: the news is told, and then it is answered, by what is found out for it. If there is no memory for the answer,
-- that is the answer.
pub record Answered {P : Type 0} (begins : Begins P) (text : P → List ℕ → Option (List ℕ)) (shown : P → Shown) (d : Server P)
    (method : List ℕ) (m : Data) (outcome : Result Data RpcError) (told : List Data) (e : Server P) : Type 0 where
  pub settled : Server P
  pub told_first : SettledIf begins text shown (owes d.phase (is_behind d)) d m told settled
  pub answer : IsFoundOutcome shown settled (request_of method) m outcome e ⊎ ((outcome ≡ Err InternalError) × (e ≡ settled))

-- a notification by what the desk does with it
abbrev pub ByDuty : {P : Type 0} → Begins P → (P → List ℕ → Option (List ℕ)) → (P → Shown) → Duty → Server P → Notice →
    Data → List Data → Server P → Type 0
ByDuty begins text shown End d notice m told e = (told ≡ []) × (e ≡ record d { over = true })
ByDuty begins text shown Pass d notice m told e = (told ≡ []) × (e ≡ d)
ByDuty begins text shown Carry d notice m told e = TakenUp begins text shown d notice m told e

-- a notification, which may be the one after which the first run is said to begin
abbrev pub NotedIf : {P : Type 0} → Begins P → (P → List ℕ → Option (List ℕ)) → (P → Shown) → Bool → Server P → List ℕ →
    Data → List Data → Server P → Type 0
NotedIf begins text shown true d method m told e = IsGreeted d told e
NotedIf begins text shown false d method m told e =
    ByDuty begins text shown (duty_of d.phase (is_behind d) (notice_of method)) d (notice_of method) m told e

-- a notification
abbrev pub Noted : {P : Type 0} → Begins P → (P → List ℕ → Option (List ℕ)) → (P → Shown) → Server P → List ℕ → Data →
    List Data → Server P → Type 0
Noted begins text shown d method m told e = NotedIf begins text shown (is_greeting method d) d method m told e
