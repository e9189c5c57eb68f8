mod Unlost
