pub mod Given
pub mod Pieces
pub mod Places
pub mod Recovery
pub mod Rounds
pub mod WhatWasCut
