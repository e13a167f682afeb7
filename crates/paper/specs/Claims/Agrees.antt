-- By its process's record a send carries what it carries said over clocks (the paper, "Clocks and stamps": "The two must be shown to agree"; theorem `agreement`).
use Rattle.std.specs.Prelude.{ℕ, ◌≡◌, List}
use Rattle.paper.specs.Event.{Event, send}
use Rattle.paper.specs.Machine.{start, event_clock, run, clocked}
use Rattle.paper.specs.Running.{news, fresh_records, counted_record, record_stamp, records}
use Rattle.paper.specs.Stamp.{differs, never_sent, previously, stamp_of}
use Rattle.paper.specs.Terms.{Terms}

-- Of the event e, offered and accepted after os.
pub record Agrees (t : Terms) (os : List Event) (e : Event) : Type 0 where
  pub component :
      e.kind ≡ send → (k : ℕ)
      → news (counted_record (records t (start t) fresh_records os) e) e.peer k
      ≡ differs (event_clock (run t (start t) os) e) (previously never_sent (clocked t (start t) os) e.process e.peer) k
  pub stamp : record_stamp (records t (start t) fresh_records os) e ≡ stamp_of (previously never_sent (clocked t (start t) os)) (record { event = e; clock = event_clock (run t (start t) os) e })
