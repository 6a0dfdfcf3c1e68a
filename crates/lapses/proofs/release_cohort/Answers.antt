use Rattle.lapses.proofs.Lapses.{sent_well, sent_there, all_released}
use Rattle.lapses.proofs.release_cohort.Goals as goal

pub returns : goal.returns
returns c = λ b h ok l named.
    let sent = c.send_all_back-r.ensures b h ok l in
    (sent.0, all_released _ _ b ok l named _ _ (c.strike_seated.ensures _ sent.1 (sent_well _ _ b ok l named) (sent_there _ _ b ok l named)) c.clear.ensures)
