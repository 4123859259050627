use Rattle.std.proofs.Common.{List, ℕ, subst}
use Rattle.lsm_frame.specs.Reader.{Reader, Tells, IsRecord}
use Rattle.lsm_frame.specs.Found.{IsRead}
use Rattle.lsm_frame.proofs.Agreeing.{agrees_record, finds_record, found_record, leads_record, none_from}
use Rattle.lsm_frame.proofs.reader.FrameReader.next.Goals as goal

pub invariant_of-self-in-Record : goal.invariant_of-self-in-Record
invariant_of-self-in-Record g c =
    agrees_record (g.V.View.viewed c.self.inside.view) (g.V.View.viewed c.read_record.new.view) c.self.inside.loaded.buffer.items c.read_record.new.loaded.buffer.items c.self.inside.loaded.base c.read_record.new.loaded.base
    c.self.inside.given c.self.inside.at c.in-Record.place c.in-Record.next c.in-Record.payload c.self.inside.ended (none_from _ c.in_default.not-Some) c.self.invariant c.in_ok-ending.ensures.loads c.in_ok-ending.ensures.stays
    (leads_record _ _ c.in-Record.place c.in-Record.next c.in-Record.payload c.in_ok-ending.field-0 c.in-Record.is c.in_ok-ending.ensures.leads)
    (found_record _ _ c.in-Record.place c.in-Record.next c.in-Record.payload c.in_ok-ending.field-0 c.in-Record.is c.in_ok-ending.ensures.is)

pub returns-in-Record-clause-record : goal.returns-in-Record-clause-record
returns-in-Record-clause-record g c =
    subst (λ (r : Reader). (text : List ℕ) → Tells r.viewed text → IsRecord text r.given c.in-Record.place c.in-Record.payload) c.self.view_is
    (λ text told. finds_record text c.self.inside.given c.self.inside.at c.in-Record.place c.in-Record.next c.in-Record.payload
    (subst (λ e. IsRead text c.self.inside.given c.self.inside.at e) (none_from c.self.inside.ended c.in_default.not-Some) (c.self.invariant.read text told))
    (found_record (g.V.View.viewed c.self.inside.view) c.self.inside.at c.in-Record.place c.in-Record.next c.in-Record.payload c.in_ok-ending.field-0 c.in-Record.is c.in_ok-ending.ensures.is text told))
