use Rattle.std.proofs.Common.{inl, inr, refl}
use Rattle.cue_service.proofs.markup.Markup.text.Goals as goal

pub returns-in-Head : goal.returns-in-Head
returns-in-Head c = inl refl

pub returns-in-Conflicts : goal.returns-in-Conflicts
returns-in-Conflicts c = inr (inl refl)

pub returns-in-Incomplete : goal.returns-in-Incomplete
returns-in-Incomplete c = inr (inr (inl refl))

pub returns-in-NoFaults : goal.returns-in-NoFaults
returns-in-NoFaults c = inr (inr (inr (inl refl)))

pub returns-in-Known : goal.returns-in-Known
returns-in-Known c = inr (inr (inr (inr (inl refl))))

pub returns-in-EndOfLines : goal.returns-in-EndOfLines
returns-in-EndOfLines c = inr (inr (inr (inr (inr (inl refl)))))

pub returns-in-Peers : goal.returns-in-Peers
returns-in-Peers c = inr (inr (inr (inr (inr (inr (inl refl))))))

pub returns-in-NoPeers : goal.returns-in-NoPeers
returns-in-NoPeers c = inr (inr (inr (inr (inr (inr (inr (inl refl)))))))

pub returns-in-Table : goal.returns-in-Table
returns-in-Table c = inr (inr (inr (inr (inr (inr (inr (inr (inl refl))))))))

pub returns-in-Peer : goal.returns-in-Peer
returns-in-Peer c = inr (inr (inr (inr (inr (inr (inr (inr (inr (inl refl)))))))))

pub returns-in-Cell : goal.returns-in-Cell
returns-in-Cell c = inr (inr (inr (inr (inr (inr (inr (inr (inr (inr (inl refl))))))))))

pub returns-in-EndOfPeer : goal.returns-in-EndOfPeer
returns-in-EndOfPeer c = inr (inr (inr (inr (inr (inr (inr (inr (inr (inr (inr (inl refl)))))))))))

pub returns-in-EndOfTable : goal.returns-in-EndOfTable
returns-in-EndOfTable c = inr (inr (inr (inr (inr (inr (inr (inr (inr (inr (inr (inr (inl refl))))))))))))

pub returns-in-Foot : goal.returns-in-Foot
returns-in-Foot c = inr (inr (inr (inr (inr (inr (inr (inr (inr (inr (inr (inr (inr (inl refl)))))))))))))
