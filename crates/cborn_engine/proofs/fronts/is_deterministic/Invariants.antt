use Rattle.cborn_engine.proofs.fronts.is_deterministic.Given as goal

-- the input that is followed
abbrev pub ghosts-follow : goal.ghosts-follow
ghosts-follow g a = record { input = a.bytes.now }
